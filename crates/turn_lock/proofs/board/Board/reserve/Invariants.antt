use Rattle.std.proofs.Common.{◌≡◌, ◌≤◌, max, []}
use Rattle.turn_lock.proofs.board.Board.reserve.Given as goal

abbrev pub invariant-loop-number : goal.invariant-loop-number
invariant-loop-number g l = (l.seat.table_id ≡ l.initial.seat.table_id) × (l.seat.me ≡ (record (l.initial.seat.me.0) { known = l.number }, [])) × (l.number ≤ max l.known l.self.seats)
