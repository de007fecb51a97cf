use Rattle.std.proofs.Common.{arith}
use Rattle.turn_lock.proofs.TurnSteps.{hands}
use Rattle.turn_lock.proofs.board.Board.serve_next.Goals as goal

pub fetch_add-requires : goal.fetch_add-requires
fetch_add-requires g c = (c.requires.same, let sized = c.args.self.now.sized in omega arith, hands g.B.Booked.means c.args.self.now.table.shared.key.seats c.args.self.now.table.shared.key.book.value _ _ _ c.requires.ready)
