use Rattle.std.proofs.Common.{ℕ, List, All, length, ap, subst}
use Rattle.std.proofs.lemmas.List.Elements.{All-head, All-rest}
use Rattle.keepers.specs.Keeper.{IsSoundChange}
use Rattle.keepers.specs.MemoryTables.{HasRoomFor, tables_of}
use Rattle.keepers.specs.declared.change.Change.{Change}
use Rattle.keepers.proofs.ChangeLemmas.{changed_by-next}
use Rattle.keepers.proofs.memory_rows.Rows.change_all.Goals as goal

pub change_one-requires-clause-sound : goal.change_one-requires-clause-sound
change_one-requires-clause-sound c =
    All-head IsSoundChange c.in-Some.change c.pop_front.new.self.items
    (subst (λ (changes : List Change). All IsSoundChange changes) c.in-Some.ensures.items c.loop-change.invariant.sound)

pub loop-change-preserved : goal.loop-change-preserved
loop-change-preserved c = record {
  room =
      c.change_one.ensures.room (length c.pop_front.new.self.items)
      (subst (λ (n : ℕ). HasRoomFor c.loop-change.self n) (ap length c.in-Some.ensures.items) c.loop-change.invariant.room);
  sound =
      All-rest IsSoundChange c.in-Some.change c.pop_front.new.self.items c.loop-change.changes.items c.in-Some.ensures.items c.loop-change.invariant.sound;
  tables =
      changed_by-next c.loop-change.changes.items c.pop_front.new.self.items c.in-Some.change (tables_of c.loop-change.self) (tables_of c.change_one.new.self)
      _ c.in-Some.ensures.items c.change_one.ensures.tables c.loop-change.invariant.tables;
}
