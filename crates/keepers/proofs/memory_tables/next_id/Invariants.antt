use Rattle.std.proofs.Common.{◌≡◌, ◌<◌, ◌^◌, drop, max}
use Rattle.ledger_rows.specs.Tables.{greatest_id}
use Rattle.keepers.proofs.memory_tables.next_id.Given as goal

-- the greatest id is that of the users so far or among those to come
abbrev pub invariant-loop-user : goal.invariant-loop-user
invariant-loop-user l = (l.greatest < 2 ^ 62) × (max l.greatest (greatest_id (drop l.user-index l.users)) ≡ greatest_id l.users)
