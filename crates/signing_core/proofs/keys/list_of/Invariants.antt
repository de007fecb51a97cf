use Rattle.std.proofs.Common.{◌≡◌, ◌∷◌, take}
use Rattle.signing_core.proofs.keys.list_of.Given as goal

abbrev pub invariant-loop-key : goal.invariant-loop-key
invariant-loop-key l = l.keys.items ≡ l.first ∷ take l.key-index l.others
