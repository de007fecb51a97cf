-- Counts of faults, which end at 2^64 - 1 (this project's own).
use Rattle.std.specs.Prelude.{◌⊎◌, ℕ, ◌+◌, ◌<◌, ◌≤◌, min}

-- a count of faults that began at base, where so many failed turns were counted
abbrev pub Level : ℕ → ℕ → ℕ → Type 0
Level base f level = (18446744073709551615 ≤ level) ⊎ ((f < 18446744073709551615) × (base + f ≤ level))

-- the count is greater, or at its end
abbrev pub Rose : ℕ → ℕ → Type 0
Rose before after = (before < after) ⊎ (18446744073709551615 ≤ after)

-- what the failed turn raises the word to
abbrev pub raised_to : ℕ → ℕ
raised_to n = min (n + 1) 18446744073709551615
