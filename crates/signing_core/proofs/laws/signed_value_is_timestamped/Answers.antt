use Rattle.signing_core.proofs.DecodingLemmas.{signed_value-complete, signed_value-sound}
use Rattle.signing_core.proofs.laws.signed_value_is_timestamped.Goals as goal

pub returns : goal.returns
returns c = λ text salt value time keys. (signed_value-sound text salt value time keys, signed_value-complete text salt value time keys)
