use Rattle.ledger_rows.proofs.UserLemmas.{names_stay_different}
use Rattle.ledger_rows.proofs.laws.names_stay_different.Goals as goal

pub returns : goal.returns
returns c = names_stay_different
