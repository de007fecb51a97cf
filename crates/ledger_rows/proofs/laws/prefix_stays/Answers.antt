use Rattle.ledger_rows.proofs.HistoryLemmas.{prefix_stays}
use Rattle.ledger_rows.proofs.laws.prefix_stays.Goals as goal

pub returns : goal.returns
returns c = prefix_stays
