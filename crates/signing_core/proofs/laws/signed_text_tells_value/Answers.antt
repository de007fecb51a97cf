use Rattle.signing_core.proofs.SignatureLemmas.{signed_text_tells_value}
use Rattle.signing_core.proofs.laws.signed_text_tells_value.Goals as goal

pub returns : goal.returns
returns c = signed_text_tells_value
