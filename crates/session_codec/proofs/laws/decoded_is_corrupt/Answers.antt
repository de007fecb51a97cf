use Rattle.session_codec.proofs.DecodedLemmas.{decoded-left, encodes-decoded, expired-decoded}
use Rattle.session_codec.proofs.laws.decoded_is_corrupt.Goals as goal

pub returns : goal.returns
returns c = λ kind keys now text. (
  λ corrupt. (
    λ ms time encodes allowed. let is = encodes-decoded kind keys now text ms (time, encodes, allowed) in cc (corrupt, is),
    λ age old. let is = expired-decoded kind keys now text age old in cc (corrupt, is),
  ),
  λ neither. decoded-left kind keys now text (λ ms current. neither.0 ms current.0 current.1 current.2) neither.1,
)
