use Rattle.std.proofs.Common.{◌∷◌, take}
use Rattle.std.specs.List.{All}
use Rattle.signing_core.specs.Keys.{HasKeyLength}
use Rattle.signing_core.proofs.keys.first_of_other_length.Given as goal

abbrev pub invariant-loop-i : goal.invariant-loop-i
invariant-loop-i l = All HasKeyLength (l.first ∷ take l.i l.fallbacks)
