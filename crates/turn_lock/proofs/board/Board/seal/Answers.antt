use Rattle.std.proofs.Common.{◌≡◌, ℕ, ◌<◌, ◌≤◌, ◌⊎◌, length, subst, sym, ap, ◌∙◌, arith, Option}
use Rattle.turn_lock.specs.Views.{if_live, numbers_in, gathered}
use Rattle.turn_lock.proofs.FlagSteps.{sealing_at}
use Rattle.turn_lock.proofs.SeatNumbers.{seal_index}
use Rattle.turn_lock.proofs.board.Board.seal.Goals as goal

pub load-flag-requires : goal.load-flag-requires
load-flag-requires g c =
    let r = c.requires.next in
    let sized = c.args.self.now.sized in
    let seats = c.args.self.now.some_seats in
    let m = c.args.seat.now.me.0 in
    let many : length (gathered m) ≡ c.args.count = ap (λ (o : Option g.row.B.Denot). length (if_live o (numbers_in m))) r.0.4.1 ∙ r.2 in
    let index = seal_index (length (gathered c.args.seat.now.me.0)) c.args.count c.args.self.now.seats c.min-index.result seats.0 many c.min-index.ensures in
    let here = subst (λ (n : ℕ). (c.min-index.result < n) × ((c.min-index.result ≡ length (gathered c.args.seat.now.me.0)) ⊎ (n ≤ length (gathered c.args.seat.now.me.0)))) (sym seats.2) index in
    (c.requires.same, omega arith, sealing_at g.B.Booked.means c.args.self.now.table.shared.key.seats c.args.self.now.table.shared.key.book.value _ _ c.min-index.result _ r.0 r.1 here.1 here.0)
