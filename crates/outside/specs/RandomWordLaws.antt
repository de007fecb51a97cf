-- Each random word is the value of a `u32`.
use Rattle.std.specs.Prelude.{ℕ, ◌<◌, ◌^◌, List, length}
use Rattle.std.proofs.Common.{arith, inl, inr}
use Rattle.std.proofs.lemmas.Bool.{cases_lt}
use Rattle.std.proofs.lemmas.List.{get_or_default}
use Rattle.std.proofs.Math.ListN.{get_or-eq_default}
use Rattle.rand_chacha.specs.Block.{block_word}
use Rattle.rand_chacha.specs.ChaCha.{word_at}
use Rattle.outside.specs.RandomWords.{FitWords, listed_word}

pub chacha-below : (rounds : ℕ) (key : List ℕ) (stream position : ℕ) → word_at rounds key stream position < 2 ^ 32
unfolding block_word
chacha-below rounds key stream position = omega arith

pub listed-below : (words : List ℕ) (rest position : ℕ) → FitWords words → rest < 2 ^ 32 → listed_word words rest position < 2 ^ 32
listed-below words rest position fit below = elim (cases_lt position (length words)) [
  | inl within ↦ rw (get_or_default words position rest 0 within) (fit position within)
  | inr beyond ↦ rw (get_or-eq_default words rest beyond) below
]
