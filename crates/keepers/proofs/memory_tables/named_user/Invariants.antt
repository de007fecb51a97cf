use Rattle.std.proofs.Common.{◌≡◌, drop}
use Rattle.ledger_rows.specs.Tables.{user_named}
use Rattle.keepers.proofs.memory_tables.named_user.Given as goal

-- the user is among those to come
abbrev pub invariant-loop-user : goal.invariant-loop-user
invariant-loop-user l = user_named (drop l.user-index l.users) l.name ≡ user_named l.users l.name
