use Rattle.signing_core.proofs.SignedJsonLemmas.{dumped_text_tells_value}
use Rattle.signing_core.proofs.laws.dumped_text_tells_value.Goals as goal

pub returns : goal.returns
returns c = dumped_text_tells_value
