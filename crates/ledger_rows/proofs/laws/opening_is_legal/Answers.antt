use Rattle.ledger_rows.proofs.HistoryLemmas.{opening_is_legal}
use Rattle.ledger_rows.proofs.laws.opening_is_legal.Goals as goal

pub returns : goal.returns
returns c = opening_is_legal
