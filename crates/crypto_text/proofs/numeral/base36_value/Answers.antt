use Rattle.std.proofs.Common.{◌<◌, arith}
use Rattle.crypto_text.proofs.NumeralLemmas.{position_in_base36}
use Rattle.crypto_text.proofs.numeral.base36_value.Goals as goal

pub returns-in-48-to-57 : goal.returns-in-48-to-57
returns-in-48-to-57 c = let byte : c.args.byte < 256 = omega arith in grind (arith, position_in_base36 c.args.byte byte)

pub returns-in-97-to-122 : goal.returns-in-97-to-122
returns-in-97-to-122 c = let byte : c.args.byte < 256 = omega arith in grind (arith, position_in_base36 c.args.byte byte)

pub returns-in_default : goal.returns-in_default
returns-in_default c = let byte : c.args.byte < 256 = omega arith in grind (arith, position_in_base36 c.args.byte byte)

pub returns-in_default-2 : goal.returns-in_default-2
returns-in_default-2 c = let byte : c.args.byte < 256 = omega arith in grind (arith, position_in_base36 c.args.byte byte)

pub returns-in_default-3 : goal.returns-in_default-3
returns-in_default-3 c = let byte : c.args.byte < 256 = omega arith in grind (arith, position_in_base36 c.args.byte byte)
