use Rattle.std.proofs.Common.{All, Contains, take}
use Rattle.permissions.proofs.permission_set.are_named.Given as goal

abbrev pub invariant-loop-perm : goal.invariant-loop-perm
invariant-loop-perm l = All (Contains l.names) (take l.perm-index l.perm-items)
