use Rattle.std.proofs.Common.{◌≡◌, take}
use Rattle.ledger_rows.specs.Tables.{users_of_email}
use Rattle.keepers.proofs.memory_tables.copies_by_email.Given as goal

-- the copies are those of the users so far
abbrev pub invariant-loop-user : goal.invariant-loop-user
invariant-loop-user l = l.copies.items ≡ users_of_email (take l.user-index l.users) l.email
