use Rattle.std.proofs.Common.{arith}
use Rattle.crypto_text.proofs.numeral.b36_decode.Goals as goal

pub returns : goal.returns
returns c = λ n. (
  λ is. let numeral = (c.decode.ensures n).0 is in (numeral.0, omega arith, numeral.1),
  λ numeral. (c.decode.ensures n).1 (numeral.0, numeral.2),
)
