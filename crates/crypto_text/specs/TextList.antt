-- Texts in a list.
use Rattle.std.specs.Prelude.{◌≢◌, ℕ, List, AllPairs}

-- no two of the texts are the same
abbrev pub AreDifferent : List (List ℕ) → Type 0
AreDifferent texts = AllPairs (λ a b. a ≢ b) texts
