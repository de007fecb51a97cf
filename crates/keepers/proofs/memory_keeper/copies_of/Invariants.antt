use Rattle.std.proofs.Common.{◌≡◌, take}
use Rattle.keepers.proofs.memory_keeper.copies_of.Given as goal

-- the copies are those of the changes so far
abbrev pub invariant-loop-change : goal.invariant-loop-change
invariant-loop-change l = l.copies.items ≡ take l.change-index l.changes
