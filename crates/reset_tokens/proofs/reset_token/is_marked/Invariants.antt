use Rattle.std.proofs.Common.{◌≡◌, ℕ, ◌<◌, [], get_or}
use Rattle.reset_tokens.specs.ResetToken.{mac_of_text}
use Rattle.reset_tokens.proofs.reset_token.is_marked.Given as goal

-- no key so far fits
abbrev pub invariant-loop-at : goal.invariant-loop-at
invariant-loop-at l = (k : ℕ) → k < l.at → l.mark ≡ mac_of_text l.text (get_or l.keys k []) → ⊥
