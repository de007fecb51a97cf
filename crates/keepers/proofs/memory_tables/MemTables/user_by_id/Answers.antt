use Rattle.std.proofs.Common.{subst, sym}
use Rattle.ledger_rows.specs.Rows.{IsSoundUser}
use Rattle.keepers.proofs.memory_tables.MemTables.user_by_id.Goals as goal

pub returns-in_ok-copy-in-Some-clause-sound : goal.returns-in_ok-copy-in-Some-clause-sound
returns-in_ok-copy-in-Some-clause-sound c = subst IsSoundUser (sym c.in_ok-copy-in-Some.ensures) c.in-Some.ensures.sound
