use Rattle.std.proofs.Common.{◌<◌, ◌^◌, arith, lit<}
use Rattle.crypto_text.specs.Numeral.{base36_digits, base62_digits}
use Rattle.crypto_text.proofs.NumeralLemmas.{IsDigitTable-base36, IsDigitTable-base62, length-base36_digits, length-base62_digits}
use Rattle.crypto_text.proofs.NumeralWriting.{length-numeral_of-le}
use Rattle.crypto_text.proofs.laws.numeral_is_short.Goals as goal

pub returns-clause-base62 : goal.returns-clause-base62
returns-clause-base62 c = λ n small.
    let room : 2 ^ 64 < 62 ^ 11 = lit< tt in
    length-numeral_of-le base62_digits IsDigitTable-base62.many 10 n (rw length-base62_digits (omega arith))

pub returns-clause-base36 : goal.returns-clause-base36
returns-clause-base36 c = λ n small.
    let room : 2 ^ 64 < 36 ^ 13 = lit< tt in
    length-numeral_of-le base36_digits IsDigitTable-base36.many 12 n (rw length-base36_digits (omega arith))
