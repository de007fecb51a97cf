use Rattle.std.proofs.Common.{rules, subst, sym}
use Rattle.ledger_rows.specs.Rows.{AreInOrder, AreSound}
use Rattle.ledger_rows.specs.Tables.{Tables}
use Rattle.keepers.specs.Keeper.{KeepsNamesOf, changed_by}
use Rattle.keepers.specs.MemoryTables.{tables_of}
use Rattle.keepers.proofs.ChangeLemmas.{changed_by-sound}
use Rattle.keepers.proofs.OrderLemmas.{changed_by-in_order}
use Rattle.keepers.proofs.memory_tables.MemTables.change.Goals as goal

pub invariant_of-self-2 : goal.invariant_of-self-2
invariant_of-self-2 c =
    let AreKept : Tables → Type 0 = λ tables. AreSound tables × AreInOrder tables in
    let before = tables_of c.self.inside.rows in
    let names : KeepsNamesOf c.args.changes.items before =
    subst (λ (tables : Tables). KeepsNamesOf c.args.changes.items tables) (sym c.self.view_is) c.requires.names in
    let kept : AreKept (changed_by c.args.changes.items before) = (
      changed_by-sound c.args.changes.items before c.requires.sound c.self.invariant.0,
      changed_by-in_order c.args.changes.items before c.self.invariant.1 (names c.self.invariant.1),
    ) in
    subst AreKept (search rules) kept
