use Rattle.crypto_text.specs.Numeral.{base36_digits, base62_digits}
use Rattle.crypto_text.proofs.NumeralLemmas.{IsDigitTable-base36, IsDigitTable-base62}
use Rattle.crypto_text.proofs.NumeralWriting.{IsNumeral-numeral_of}
use Rattle.crypto_text.proofs.laws.numeral_tells_number.Goals as goal

pub returns-clause-base62 : goal.returns-clause-base62
returns-clause-base62 c = λ n. IsNumeral-numeral_of base62_digits n IsDigitTable-base62

pub returns-clause-base36 : goal.returns-clause-base36
returns-clause-base36 c = λ n. IsNumeral-numeral_of base36_digits n IsDigitTable-base36
