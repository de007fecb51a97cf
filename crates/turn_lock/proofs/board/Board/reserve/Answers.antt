use Rattle.std.proofs.Common.{rules, ◌≡◌, ℕ, [], max, ap, ◌∙◌, arith}
use Rattle.std.proofs.lemmas.Grind.{common_steps}
use Rattle.turn_lock.specs.Steps.{SeatState}
use Rattle.turn_lock.proofs.board.Board.reserve.Goals as goal

pub returns-clause-none : goal.returns-clause-none
returns-clause-none g c = let z : c.loop-number.number ≡ max c.args.known c.args.self.now.seats = first_of (omega arith, first_of (search rules, grind (arith, common_steps))) in
    c.loop-number.invariant.1 ∙ ap (λ (n : ℕ). let m : SeatState g.row.B.Denot g.row.B-Entry.Denot = (record (c.args.seat.now.me.0) { known = n }, []) in m) z
