use Rattle.std.proofs.Common.{List, All, subst, sym, rules}
use Rattle.ledger_rows.specs.Rows.{AreInOrder, AreSound, IsSoundUser}
use Rattle.ledger_rows.specs.Tables.{Tables, opening_tables}
use Rattle.ledger_rows.specs.declared.rows.UserRow.{UserRow}
use Rattle.ledger_rows.proofs.OpeningLemmas.{opening_rows_are_sound}
use Rattle.keepers.proofs.OrderLemmas.{opening_rows_are_in_order}
use Rattle.keepers.proofs.memory_tables.MemTables.of.Goals as goal

pub next_id-next_user-requires : goal.next_id-next_user-requires
next_id-next_user-requires c =
    subst (λ (users : List UserRow). All IsSoundUser users) (sym c.items.ensures) (opening_rows_are_sound c.args.opening.now c.requires).users

pub invariant_of-result : goal.invariant_of-result
invariant_of-result c =
    let AreKept : Tables → Type 0 = λ tables. AreSound tables × AreInOrder tables in
    let kept : AreKept (opening_tables c.args.opening.now) =
    (opening_rows_are_sound c.args.opening.now c.requires, opening_rows_are_in_order c.args.opening.now c.requires) in
    subst AreKept (search rules) kept
