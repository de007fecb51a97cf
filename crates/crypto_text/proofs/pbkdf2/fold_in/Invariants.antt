use Rattle.std.proofs.Common.{◌≡◌, ℕ, ◌<◌, ◌≤◌, List, length, get_or, bit_xor}
use Rattle.crypto_text.proofs.pbkdf2.fold_in.Given as goal

-- the first i bytes are folded in, and the others are as they were
pub record IsFolded (before mac block : List ℕ) (i : ℕ) : Type 0 where
  pub whole : length block ≡ length before
  pub folded : (k : ℕ) → k < i → get_or block k 0 ≡ bit_xor (get_or before k 0) (get_or mac k 0)
  pub rest : (k : ℕ) → i ≤ k → get_or block k 0 ≡ get_or before k 0

abbrev pub invariant-loop-i : goal.invariant-loop-i
invariant-loop-i g l = IsFolded l.initial.block l.mac l.block l.i
