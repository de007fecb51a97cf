use Rattle.signing_core.proofs.DecodingLemmas.{bytes_of-complete, bytes_of-sound}
use Rattle.signing_core.proofs.laws.bytes_are_encoded.Goals as goal

pub returns : goal.returns
returns c = λ text bytes. (bytes_of-sound text bytes, λ encoded. bytes_of-complete text bytes encoded.0 encoded.1)
