use Rattle.std.proofs.Common.{◌≡◌, ℕ, ◌+◌, ◌%◌, ◌<◌, List, get_or, length, take}
use Rattle.csrf_tokens.specs.Letters.{IsLetter, index_of, sum_of}
use Rattle.csrf_tokens.proofs.tokens.mask.Given as goal

-- the mask comes first, then the first i sums
pub record HoldsSums (secret mask token : List ℕ) (i : ℕ) : Type 0 where
  pub whole : length token ≡ 64
  pub mask_first : take 32 token ≡ mask
  pub letters : (k : ℕ) → k < i → IsLetter (get_or token (32 + k) 0)
  pub sums : (k : ℕ) → k < i → index_of (get_or token (32 + k) 0) ≡ (index_of (get_or secret k 0) + index_of (get_or mask k 0)) % 62
  pub values : (k : ℕ) → k < i → get_or token (32 + k) 0 ≡ sum_of (get_or secret k 0) (get_or mask k 0)

abbrev pub invariant-loop-i : goal.invariant-loop-i
invariant-loop-i l = HoldsSums l.secret l.mask l.token l.i
