use Rattle.session_codec.proofs.DecodedLemmas.{payload-read, read-payload}
use Rattle.session_codec.proofs.laws.payload_is_read.Goals as goal

pub returns : goal.returns
returns c = λ text ms. (payload-read text ms, read-payload text ms)
