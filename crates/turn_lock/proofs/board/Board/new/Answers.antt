use Rattle.std.proofs.Common.{rules, ◌≡◌, ℕ, ◌+◌, ◌≤◌, List, replicate, set, ap, ◌∙◌, arith}
use Rattle.std.proofs.lemmas.Grind.{common_steps}
use Rattle.turn_lock.proofs.OpenAndClose.{starts_at}
use Rattle.turn_lock.proofs.SeatNumbers.{first_words}
use Rattle.turn_lock.proofs.board.Board.new.Goals as goal

pub new-requires : goal.new-requires
new-requires g c =
    let h = c.requires in
    let n : c.from.result ≡ c.args.seats = search rules in
    let filled : c.in-Ok.words.items ≡ replicate (c.from.result + 4 + 65) 0 = rw n (first_of (search rules, grind (arith, common_steps))) in
    let low : 1 ≤ c.from.result = rw n h.0 in
    starts_at g.B.Booked.means c.from.result c.of.result.value (replicate 65 0) _ _
    (c.as_slice.ensures.value ∙ (ap (λ (l : List ℕ). set l 4 1) filled ∙ first_words c.from.result 65 low)) (low, rw n h.1) (first_of (search rules, grind (arith, common_steps)))
