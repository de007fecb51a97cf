-- Random words are at positions, counted in a circle of 2 ^ 68, as those of the ChaCha generators of `rand_chacha` are.
use Rattle.std.specs.Prelude.{◌<◌, ℕ, zero, suc, ◌+◌, ◌%◌, ◌^◌, List, [], ◌∷◌, ◌++◌, length, slice_index, slice_index_or}

-- what a generator reports
pub record RandomWords : Type 0 where
  -- where its next word is
  pub position : ℕ
  -- the word at each position
  pub word_at : ℕ → ℕ

-- the position so many words further on
abbrev pub position_after : ℕ → ℕ → ℕ
position_after position count = (position + count) % 2 ^ 68

-- the generator once so many words were drawn
abbrev pub after_words : RandomWords → ℕ → RandomWords
after_words words count = record { position = position_after words.position count; word_at = words.word_at }

-- its next word
abbrev pub next_word : RandomWords → ℕ
next_word words = words.word_at words.position

-- its next words, so many of them
unfoldable pub words_from : RandomWords → ℕ → List ℕ
words_from words zero = []
words_from words (suc count) = words_from words count ++ (next_word (after_words words count) ∷ [])

-- the word at a position of a list, and the same word at each position after it
abbrev pub listed_word : List ℕ → ℕ → ℕ → ℕ
listed_word words rest position = slice_index_or words position rest

-- each is the value of a `u32`
abbrev pub FitWords : List ℕ → Type 0
FitWords words = (i : ℕ) → i < length words → slice_index words i < 2 ^ 32
