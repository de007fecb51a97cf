use Rattle.std.proofs.Common.{◌≤◌, ◌+◌, arith}
use Rattle.turn_lock.proofs.FlagSteps.{wakes_at}
use Rattle.turn_lock.proofs.board.Board.wake.Goals as goal

pub fetch_add-requires : goal.fetch_add-requires
fetch_add-requires g c =
    let sized = c.args.self.now.sized in
    let some = c.args.self.now.some_seats in
    let word = c.sleep_word-word.ensures in
    (c.requires.same, omega arith, wakes_at g.B.Booked.means c.args.self.now.table.shared.key.seats c.args.self.now.table.shared.key.book.value _ _ c.sleep_word-word.result _ c.requires.idle.0 c.requires.idle.1 (let z : c.args.self.now.table.shared.key.seats + 4 ≤ c.sleep_word-word.result = omega arith in z))
