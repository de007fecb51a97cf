use Rattle.std.proofs.Common.{arith}
use Rattle.turn_lock.proofs.TicketSteps.{looks_at}
use Rattle.turn_lock.proofs.board.Board.look.Goals as goal

pub load-requires : goal.load-requires
load-requires g c = (c.requires.same, let sized = c.args.self.now.sized in omega arith, looks_at g.B.Booked.means c.args.self.now.table.shared.key.seats c.args.self.now.table.shared.key.book.value _ _ c.args.ticket _ c.requires.waits)
