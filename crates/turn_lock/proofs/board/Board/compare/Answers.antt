use Rattle.std.proofs.Common.{arith}
use Rattle.turn_lock.proofs.FlagSteps.{compares_at}
use Rattle.turn_lock.proofs.board.Board.compare.Goals as goal

pub load-requires : goal.load-requires
load-requires g c = (c.requires.same, let sized = c.args.self.now.sized in omega arith, compares_at g.B.Booked.means c.args.self.now.table.shared.key.seats c.args.self.now.table.shared.key.book.value _ _ _ c.requires.rests)
