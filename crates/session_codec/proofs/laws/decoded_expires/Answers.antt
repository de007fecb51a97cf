use Rattle.session_codec.proofs.DecodedLemmas.{decoded-expired, expired-decoded}
use Rattle.session_codec.proofs.laws.decoded_expires.Goals as goal

pub returns : goal.returns
returns c = λ kind keys now text age. (decoded-expired kind keys now text age, expired-decoded kind keys now text age)
