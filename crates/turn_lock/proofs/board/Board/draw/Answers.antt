use Rattle.std.proofs.Common.{arith}
use Rattle.turn_lock.proofs.TicketSteps.{draws_at}
use Rattle.turn_lock.proofs.board.Board.draw.Goals as goal

pub fetch_add-requires : goal.fetch_add-requires
fetch_add-requires g c = (c.requires.same, let sized = c.args.self.now.sized in omega arith, draws_at g.B.Booked.means c.args.self.now.table.shared.key.seats c.args.self.now.table.shared.key.book.value _ _ _ c.requires.rests)
