use Rattle.signing_core.proofs.SignedJsonLemmas.{dumped_while_listed}
use Rattle.signing_core.proofs.laws.dumped_while_listed.Goals as goal

pub returns : goal.returns
returns c = dumped_while_listed
