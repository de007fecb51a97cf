use Rattle.std.proofs.Common.{arith}
use Rattle.turn_lock.proofs.SeatSteps.{merges}
use Rattle.turn_lock.proofs.board.Board.merge.Goals as goal

pub join_seat-requires : goal.join_seat-requires
join_seat-requires g c = let r = c.requires.rest in
    (c.requires.same.0, c.requires.same.1, r.1.0, let sized = c.args.self.now.sized in omega arith, merges g.B.Booked.means c.args.self.now.table.shared.key.seats c.args.self.now.table.shared.key.book.value _ _ _ _ r.0.4.0 r.1.4.0 r.0.4.1 r.1.4.1 r.0.2 r.1.2 r.0.1 r.1.1 r.2)
