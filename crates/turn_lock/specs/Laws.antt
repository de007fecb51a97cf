-- What the entries of a log are good for (this project's own).
use Rattle.std.specs.Prelude.{◌≡◌, ◌≢◌, ℕ, List, []}
use Rattle.turn_lock.specs.Log.{own_entries, IsInterleaving}

-- where each entry is owned by one of two numbers, the entries are an interleaving of what both own
abbrev pub EntriesOfTwoInterleave : {E : Type 0} → (E → ℕ) → Type 0
EntriesOfTwoInterleave {E} owner = (first second : ℕ) (entries : List E) → first ≢ second
    → ((n : ℕ) → n ≢ first → n ≢ second → own_entries owner n entries ≡ [])
    → IsInterleaving (own_entries owner first entries) (own_entries owner second entries) entries
