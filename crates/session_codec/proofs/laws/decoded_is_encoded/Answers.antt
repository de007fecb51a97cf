use Rattle.session_codec.proofs.DecodedLemmas.{decoded-encodes, encodes-decoded}
use Rattle.session_codec.proofs.laws.decoded_is_encoded.Goals as goal

pub returns : goal.returns
returns c = λ kind keys now text ms. (decoded-encodes kind keys now text ms, encodes-decoded kind keys now text ms)
