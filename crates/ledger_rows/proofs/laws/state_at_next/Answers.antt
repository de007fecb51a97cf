use Rattle.ledger_rows.proofs.HistoryLemmas.{state_at_next}
use Rattle.ledger_rows.proofs.laws.state_at_next.Goals as goal

pub returns : goal.returns
returns c = state_at_next
