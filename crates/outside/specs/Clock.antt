-- What a clock reports of its readings. Seconds are counted since 1970-01-01 00:00 UTC.
use Rattle.std.specs.Prelude.{◌≡◌, ℕ, zero, suc, ◌-◌, min, List, [], ◌∷◌, length, slice_index, Option, Some, None}

-- the readings of a list, counted from 0, and after them those of a rule
abbrev pub reading_of : List ℕ → (ℕ → ℕ) → ℕ → ℕ
reading_of [] later k = later k
reading_of (now ∷ rest) later zero = now
reading_of (now ∷ rest) later (suc k) = reading_of rest later k

-- these readings and then those to come, where they are reported
abbrev pub with_first : List ℕ → Option (ℕ → ℕ) → Option (ℕ → ℕ)
with_first given None = None
with_first given (Some later) = Some (reading_of given later)

-- of the readings to come, these were given, one by each call; no call changes whether a clock reports them
abbrev pub GivesNext : Option (ℕ → ℕ) → Option (ℕ → ℕ) → List ℕ → Type 0
GivesNext old new given = old ≡ with_first given new

-- the k-th reading to come of a list whose last reading repeats, and 0 where there is none
abbrev pub repeating : List ℕ → ℕ → ℕ
repeating readings k = slice_index readings (min k (length readings - 1))
