use Rattle.signing_core.proofs.SignatureLemmas.{timestamped_while_listed}
use Rattle.signing_core.proofs.laws.timestamped_while_listed.Goals as goal

pub returns : goal.returns
returns c = timestamped_while_listed
