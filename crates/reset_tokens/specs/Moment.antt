-- The text of a moment, in seconds since 1970-01-01 00:00:00 UTC with 86,400 to a day (POSIX.1, "Seconds Since the Epoch"), as
-- Python's `str` writes a `datetime` without a fraction: ISO 8601 with a space for the `T`.
use Rattle.std.specs.Prelude.{ℕ, zero, suc, ◌+◌, ◌/◌, ◌%◌, nat_lt, if◌then◌else◌, List, [], ◌∷◌, ◌++◌, pos}
use Rattle.jiff.specs.Words.{days_in_month}

-- a day of the Gregorian calendar
pub record CalendarDay : Type 0 where
  pub year : ℕ
  pub month : ℕ
  pub day : ℕ

-- the day after a day: the next of its month, the first of the next month, or the first of the next year
abbrev pub day_after : CalendarDay → CalendarDay
day_after d =
    if nat_lt d.day (days_in_month (pos d.year) d.month) then record { year = d.year; month = d.month; day = d.day + 1 }
    else (if nat_lt d.month 12 then record { year = d.year; month = d.month + 1; day = 1 }
    else record { year = d.year + 1; month = 1; day = 1 })

-- the day so many days after 1 January 1970
unfoldable pub day_at : ℕ → CalendarDay
day_at zero = record { year = 1970; month = 1; day = 1 }
day_at (suc n) = day_after (day_at n)

-- a number below 100 in two digits
abbrev pub two_digits : ℕ → List ℕ
two_digits n = (48 + n / 10) ∷ (48 + n % 10) ∷ []

-- a number below 10,000 in four digits
abbrev pub four_digits : ℕ → List ℕ
four_digits n = two_digits (n / 100) ++ two_digits (n % 100)

-- `YYYY-MM-DD`
abbrev pub date_text : CalendarDay → List ℕ
date_text d = four_digits d.year ++ 45 ∷ two_digits d.month ++ 45 ∷ two_digits d.day

-- `HH:MM:SS` of a second of the day
abbrev pub time_text : ℕ → List ℕ
time_text second = two_digits (second / 3600) ++ 58 ∷ two_digits (second % 3600 / 60) ++ 58 ∷ two_digits (second % 60)

-- `YYYY-MM-DD HH:MM:SS` of a moment, in UTC
unfoldable pub moment_text : ℕ → List ℕ
moment_text moment = date_text (day_at (moment / 86400)) ++ 32 ∷ time_text (moment % 86400)
