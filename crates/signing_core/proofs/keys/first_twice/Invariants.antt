use Rattle.std.proofs.Common.{◌∷◌, take}
use Rattle.crypto_text.specs.TextList.{AreDifferent}
use Rattle.signing_core.proofs.keys.first_twice.Given as goal

abbrev pub invariant-loop-i : goal.invariant-loop-i
invariant-loop-i l = AreDifferent (l.first ∷ take l.i l.fallbacks)
