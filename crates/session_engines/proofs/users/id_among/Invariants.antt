use Rattle.std.proofs.Common.{◌≡◌, drop}
use Rattle.ledger_rows.specs.Tables.{group_named}
use Rattle.session_engines.proofs.users.id_among.Given as goal

-- the group is among those to come
abbrev pub invariant-loop-group : goal.invariant-loop-group
invariant-loop-group l = group_named (drop l.group-index l.groups) l.name ≡ group_named l.groups l.name
