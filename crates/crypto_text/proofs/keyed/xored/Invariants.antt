use Rattle.std.proofs.Common.{◌≡◌, ℕ, List, ◌++◌, length, map, take, drop, bit_xor}
use Rattle.crypto_text.proofs.keyed.xored.Given as goal

-- the first i bytes are changed
pub record IsChanged (before after : List ℕ) (pad i : ℕ) : Type 0 where
  pub long : length before ≡ 64
  pub whole : length after ≡ 64
  pub changed : after ≡ map (λ byte. bit_xor byte pad) (take i before) ++ drop i before

abbrev pub invariant-loop-i : goal.invariant-loop-i
invariant-loop-i l = IsChanged l.initial.block l.block l.pad l.i
