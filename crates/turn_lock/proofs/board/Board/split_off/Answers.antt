use Rattle.std.proofs.Common.{arith}
use Rattle.turn_lock.proofs.SeatSteps.{splits_off}
use Rattle.turn_lock.proofs.Values.{full_is}
use Rattle.turn_lock.proofs.board.Board.split_off.Goals as goal

pub split_seat-requires : goal.split_seat-requires
split_seat-requires g c = let r = c.requires.reserved in let n = full_is c.args.seat.now.me.0.reserved r.1 in
    (c.requires.same, let sized = c.args.self.now.sized in omega arith, splits_off g.B.Booked.means c.args.self.now.table.shared.key.seats c.args.self.now.table.shared.key.book.value _ n.0 _ r.0.4.0 r.0.4.1 n.1 r.2 r.0.2)
