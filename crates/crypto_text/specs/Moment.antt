-- Moments, in seconds since 1970-01-01 00:00 UTC. The bounds are this project's own: the texts of the moments between them
-- all have one form.
use Rattle.std.specs.Prelude.{ℕ, ◌≤◌, max, min}

-- from September 2001 to the year 9892
pub record IsMoment (seconds : ℕ) : Type 0 where
  pub first : 1000000000 ≤ seconds
  pub last : seconds ≤ 250000000000

-- the moment that a clock shows: its reading, or the nearest moment where the clock is far off
abbrev pub moment : ℕ → ℕ
moment now = max 1000000000 (min now 250000000000)
