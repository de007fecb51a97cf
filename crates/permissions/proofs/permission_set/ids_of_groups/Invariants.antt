use Rattle.std.proofs.Common.{◌≡◌, take}
use Rattle.permissions.specs.PermissionSet.{holder_row, ids_of_groups}
use Rattle.permissions.proofs.permission_set.ids_of_groups.Given as goal

abbrev pub invariant-loop-group : goal.invariant-loop-group
invariant-loop-group l = l.ids.items ≡ ids_of_groups (holder_row l.user) (take l.group-index l.groups)
