-- The IMF-fixdate of a moment (RFC 9110, section 5.6.7), by the Gregorian calendar counted from 1970.
use Rattle.std.specs.Prelude.{ℕ, ◌+◌, ◌-◌, ◌/◌, ◌%◌, nat_le, List}
use Rattle.std.specs.List.{prefix_len, range_with_len}
use Rattle.httpdate.specs.Calendar.{days_of_months, days_of_years, weekday}
use Rattle.httpdate.specs.Text.{imf_fixdate}

-- how many whole periods of at most so many are over before a day, where the first n take `days n` days
abbrev pub periods_before : (ℕ → ℕ) → ℕ → ℕ → ℕ
periods_before days most day = prefix_len (λ n. nat_le (days (n + 1)) day) (range_with_len 0 most)

-- how many years of the calendar are over before a day, counted from 1970 and below 10000
unfoldable pub years_before : ℕ → ℕ
years_before day = periods_before days_of_years 8030 day

-- how many months of the year are over before a day of the year
unfoldable pub months_before : ℕ → ℕ → ℕ
months_before year day = periods_before (days_of_months year) 12 day

-- the year of a day, and the day of that year from 0
abbrev pub year_of : ℕ → ℕ
year_of day = 1970 + years_before day

abbrev pub day_of_year : ℕ → ℕ
day_of_year day = day - days_of_years (years_before day)

-- the month of a day, and the day of that month
abbrev pub month_of : ℕ → ℕ
month_of day = months_before (year_of day) (day_of_year day) + 1

abbrev pub day_of_month : ℕ → ℕ
day_of_month day = day_of_year day - days_of_months (year_of day) (months_before (year_of day) (day_of_year day)) + 1

-- the text of a moment, in seconds since 1970
unfoldable pub fixed_date : ℕ → List ℕ
fixed_date seconds = imf_fixdate (record {
  year = year_of (seconds / 86400);
  mon = month_of (seconds / 86400);
  day = day_of_month (seconds / 86400);
  hour = seconds % 86400 / 3600;
  min = seconds % 3600 / 60;
  sec = seconds % 60;
  wday = weekday (seconds / 86400);
})
