use Rattle.std.proofs.Common.{sym}
use Rattle.crypto_text.proofs.NumeralLemmas.{length-base36_digits, length-base62_digits}
use Rattle.crypto_text.proofs.numeral.Base.size.Goals as goal

pub returns-in-Base36-clause-value : goal.returns-in-Base36-clause-value
returns-in-Base36-clause-value c = rw c.in-Base36.is (sym length-base36_digits)

pub returns-in-Base62-clause-value : goal.returns-in-Base62-clause-value
returns-in-Base62-clause-value c = rw c.in-Base62.is (sym length-base62_digits)
