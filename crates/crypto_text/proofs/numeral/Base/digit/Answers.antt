use Rattle.std.proofs.Common.{refl}
use Rattle.crypto_text.specs.Numeral.{base36_digits, base62_digits}
use Rattle.crypto_text.proofs.NumeralLemmas.{ascii_in_base36, ascii_in_base62, length-base36_digits, length-base62_digits}
use Rattle.crypto_text.proofs.numeral.Base.digit.Goals as goal

pub bounds-value : goal.bounds-value
bounds-value c = let lt = rw (c.in-Base36.is, length-base36_digits) at c.requires in lt

pub bounds-value-in-Base62 : goal.bounds-value-in-Base62
bounds-value-in-Base62 c = let lt = rw (c.in-Base62.is, length-base62_digits) at c.requires in lt

pub returns-in-Base36-clause-digit : goal.returns-in-Base36-clause-digit
unfolding base36_digits
returns-in-Base36-clause-digit c = rw c.in-Base36.is refl

pub returns-in-Base36-clause-ascii : goal.returns-in-Base36-clause-ascii
unfolding base36_digits
returns-in-Base36-clause-ascii c = ascii_in_base36 c.args.value (rw c.in-Base36.is at c.requires)

pub returns-in-Base62-clause-digit : goal.returns-in-Base62-clause-digit
unfolding base62_digits
returns-in-Base62-clause-digit c = rw c.in-Base62.is refl

pub returns-in-Base62-clause-ascii : goal.returns-in-Base62-clause-ascii
unfolding base62_digits
returns-in-Base62-clause-ascii c = ascii_in_base62 c.args.value (rw c.in-Base62.is at c.requires)
