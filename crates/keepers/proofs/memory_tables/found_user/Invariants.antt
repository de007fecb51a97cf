use Rattle.std.proofs.Common.{◌≡◌, drop}
use Rattle.ledger_rows.specs.Tables.{user_of}
use Rattle.keepers.proofs.memory_tables.found_user.Given as goal

-- the user is among those to come
abbrev pub invariant-loop-user : goal.invariant-loop-user
invariant-loop-user l = user_of (drop l.user-index l.users) l.id ≡ user_of l.users l.id
