-- Lists of signing keys: Django's SECRET_KEY, then its SECRET_KEY_FALLBACKS. The bounds are
-- this project's own.
use Rattle.std.specs.Prelude.{ℕ, ◌<◌, ◌≤◌, List, [], ◌∷◌, All, Contains, length, slice_index_or, take}
use Rattle.crypto_text.specs.TextList.{AreDifferent}

-- as many bytes as a key may have
abbrev pub HasKeyLength : List ℕ → Type 0
HasKeyLength key = (1 ≤ length key) × (length key ≤ 1024)

-- 1 to 16 different keys of 1 to 1,024 bytes
pub record IsKeys (keys : List (List ℕ)) : Type 0 where
  pub some : 1 ≤ length keys
  pub few : length keys ≤ 16
  pub lengths : All HasKeyLength keys
  pub different : AreDifferent keys

-- the key at an index below the length
abbrev pub key_at : List (List ℕ) → ℕ → List ℕ
key_at keys at = slice_index_or keys at []

-- the first key that hasn't the length of a key is at this index
pub record IsFirstOfOtherLength (keys : List (List ℕ)) (at : ℕ) : Type 0 where
  pub within : at < length keys
  pub other : ¬ HasKeyLength (key_at keys at)
  pub before : All HasKeyLength (take at keys)

-- the first key that is the same as an earlier one is at this index
pub record IsFirstTwice (keys : List (List ℕ)) (at : ℕ) : Type 0 where
  pub within : at < length keys
  pub twice : Contains (take at keys) (key_at keys at)
  pub before : AreDifferent (take at keys)

-- the keys once another one has become the first: the old first key heads the fallbacks
abbrev pub rotated : List (List ℕ) → List ℕ → List (List ℕ)
rotated keys key = key ∷ keys

-- the keys once the fallbacks are given up
abbrev pub retired : List (List ℕ) → List (List ℕ)
retired keys = take 1 keys
