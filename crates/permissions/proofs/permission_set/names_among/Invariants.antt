use Rattle.std.proofs.Common.{◌≡◌, take}
use Rattle.permissions.specs.PermissionSet.{holder_row, is_held, names_of}
use Rattle.permissions.proofs.permission_set.names_among.Given as goal

abbrev pub invariant-loop-row : goal.invariant-loop-row
invariant-loop-row l = l.names.keys ≡ names_of (is_held (holder_row l.user) l.ids) (take l.row-index l.perms)
