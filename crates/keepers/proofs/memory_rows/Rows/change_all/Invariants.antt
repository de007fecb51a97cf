use Rattle.std.proofs.Common.{◌≡◌, All, length}
use Rattle.keepers.specs.Keeper.{IsSoundChange, changed_by}
use Rattle.keepers.specs.MemoryTables.{HasRoomFor, tables_of}
use Rattle.keepers.proofs.memory_rows.Rows.change_all.Given as goal

-- there is room for the changes to come, they are sound, and they make of the tables now what all make of those at the start
abbrev pub invariant-loop-change : goal.invariant-loop-change
invariant-loop-change l = record {
  room : HasRoomFor l.self (length l.changes.items);
  sound : All IsSoundChange l.changes.items;
  tables : changed_by l.changes.items (tables_of l.self) ≡ changed_by l.fn.changes.items (tables_of l.fn.self);
}

abbrev pub decreases-loop-change : goal.decreases-loop-change
decreases-loop-change l = length l.changes.items
