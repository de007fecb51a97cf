use Rattle.std.proofs.Common.{◌≡◌, ℕ, ◌+◌, ◌%◌, ◌<◌, List, get_or, length}
use Rattle.csrf_tokens.specs.Letters.{IsLetter, difference_of, index_of}
use Rattle.csrf_tokens.proofs.tokens.unmask.Given as goal

-- the first i letters of the secret are found
pub record IsFilled (token secret : List ℕ) (i : ℕ) : Type 0 where
  pub whole : length secret ≡ 32
  pub letters : (k : ℕ) → k < i → IsLetter (get_or secret k 0)
  pub sums : (k : ℕ) → k < i → index_of (get_or token (32 + k) 0) ≡ (index_of (get_or secret k 0) + index_of (get_or token k 0)) % 62
  pub values : (k : ℕ) → k < i → get_or secret k 0 ≡ difference_of (get_or token (32 + k) 0) (get_or token k 0)

abbrev pub invariant-loop-i : goal.invariant-loop-i
invariant-loop-i l = IsFilled l.token l.secret l.i
