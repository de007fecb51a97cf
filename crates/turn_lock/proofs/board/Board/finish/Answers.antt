use Rattle.std.proofs.Common.{◌≡◌, Some, subst, sym, ◌∙◌}
use mathlib.Core.Option.{some-injective}
use Rattle.turn_lock.specs.Known.{known_of}
use Rattle.turn_lock.specs.Close.{ClosesFrom}
use Rattle.turn_lock.proofs.OpenAndClose.{closes}
use Rattle.turn_lock.proofs.Values.{not_none, same_value}
use Rattle.turn_lock.proofs.board.Board.finish.Goals as goal

pub unreachable-requires : goal.unreachable-requires
unreachable-requires g c =
    let m = c.args.seat.me.0 in let rests = c.requires.rests.0 in
    let last = closes g.B.Booked.means c.args.self.table.shared.key.seats c.args.seat.table_id c.args.self.table.shared.key.book.value c.args.seat.id m _ _ c.requires.rests.1 rests.1 rests.4.0 rests.4.1 c.close_with-closed.ensures.values.2 in
    not_none last.0 (sym c.in-None.is ∙ some-injective c.take-slot.result (Some last.0) (sym c.take-slot.ensures.value ∙ last.1))

pub returns : goal.returns
returns g c a e =
    let m = c.args.seat.me.0 in let rests = c.requires.rests.0 in
    let last = closes g.B.Booked.means c.args.self.table.shared.key.seats c.args.seat.table_id c.args.self.table.shared.key.book.value c.args.seat.id m _ _ c.requires.rests.1 rests.1 a e c.close_with-closed.ensures.values.2 in
    let same : last.0 ≡ c.in-Some.book = same_value last.0 c.in-Some.book (sym (some-injective c.take-slot.result (Some last.0) (sym c.take-slot.ensures.value ∙ last.1)) ∙ c.in-Some.is) in
    subst (λ (b : g.row.B.Denot). ClosesFrom g.B.Booked.means a (known_of c.args.seat.table_id m) b) same last.2
