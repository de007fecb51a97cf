use Rattle.ledger_rows.proofs.HistoryLemmas.{legal_history_grows}
use Rattle.ledger_rows.proofs.laws.legal_history_grows.Goals as goal

pub returns : goal.returns
returns c = legal_history_grows
