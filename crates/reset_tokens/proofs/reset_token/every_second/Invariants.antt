use Rattle.std.proofs.Common.{◌≡◌, ℕ, ◌*◌, ◌<◌, get_or, length}
use Rattle.reset_tokens.proofs.reset_token.every_second.Given as goal

-- the places so far are filled
abbrev pub invariant-loop-place : goal.invariant-loop-place
invariant-loop-place l = record {
  long : length l.chosen ≡ 32;
  filled : (k : ℕ) → k < l.place → get_or l.chosen k 0 ≡ get_or l.digits (2 * k) 0;
}
