use Rattle.std.proofs.Common.{◌<◌, arith}
use Rattle.turn_lock.proofs.FlagSteps.{numbers_at}
use Rattle.turn_lock.proofs.board.Board.draw_number.Goals as goal

pub fetch_or-requires : goal.fetch_or-requires
fetch_or-requires g c = let r = c.requires.next in let sized = c.args.self.now.sized in let some = c.args.self.now.some_seats in
    (c.requires.same, omega arith, numbers_at g.B.Booked.means c.args.self.now.table.shared.key.seats c.args.self.now.table.shared.key.book.value _ _ c.args.number _ r.0 r.1 r.2 (let z : c.args.number < c.args.self.now.table.shared.key.seats = omega arith in z))
