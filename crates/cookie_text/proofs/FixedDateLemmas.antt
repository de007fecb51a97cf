-- The date that the library below writes for a moment is its IMF-fixdate.
use Rattle.std.proofs.Common.{◌≡◌, ℕ, zero, suc, ◌+◌, ◌-◌, ◌*◌, ◌/◌, ◌%◌, ◌<◌, ◌≤◌, nat_le, true, false, inl, inr, length, get_or, refl, sym, ap, ◌∙◌, subst, add-one, arith}
use Rattle.std.specs.List.{prefix_len, range_with_len}
use Rattle.std.proofs.lemmas.Bool.{cases_lt, leb-false, leb-true}
use Rattle.std.proofs.lemmas.List.FromFn.{get_or-range_with_len, length-range_with_len}
use Rattle.std.proofs.lemmas.List.Sums.{prefix_len_passes, prefix_len_stops, prefix_len-le-length}
use Rattle.httpdate.specs.Calendar.{days_from_civil, days_in_month, days_in_year, days_of_months, days_of_years, weekday}
use Rattle.httpdate.specs.Date.{date_text, unix_secs}
use Rattle.httpdate.specs.declared.HttpDate.{HttpDate}
use Rattle.httpdate.proofs.CalendarLemmas.{days_of_months_all}
use Rattle.httpdate.proofs.Theorems.{date_text_is}
use Rattle.httpdate.proofs.ValidLemmas.{is_valid_complete}
use Rattle.cookie_text.specs.FixedDate.{day_of_month, day_of_year, fixed_date, month_of, months_before, periods_before, year_of, years_before}

-- ---- periods over before a day

place : (most k : ℕ) → k < most → get_or (range_with_len 0 most) k 0 ≡ k
place most k lt = get_or-range_with_len 0 most k 0 lt ∙ omega arith

periods_before-most : (days : ℕ → ℕ) (most day : ℕ) → periods_before days most day ≤ most
periods_before-most days most day =
    let le = prefix_len-le-length (λ n. nat_le (days (n + 1)) day) (range_with_len 0 most) in
    omega (arith, length-range_with_len 0 most)

-- they are over
periods_before-le : (days : ℕ → ℕ) (most day before : ℕ) → days 0 ≤ day → before ≡ periods_before days most day → days before ≤ day
periods_before-le days most day zero first is = first
periods_before-le days most day (suc k) first is =
    let within : suc k ≤ most = rw is (periods_before-most days most day) in
    let passes = prefix_len_passes (λ n. nat_le (days (n + 1)) day) (range_with_len 0 most) k 0 (rw (← is) (omega arith)) in
    let here : nat_le (days (k + 1)) day ≡ true = subst (λ n. nat_le (days (n + 1)) day ≡ true) (place most k (omega arith)) passes in
    let next : k + 1 ≡ suc k = omega arith in
    subst (λ n. days n ≤ day) next (leb-true (days (k + 1)) day here)

-- and one more is not
periods_before-lt : (days : ℕ → ℕ) (most day before : ℕ) → before < most → before ≡ periods_before days most day → day < days (before + 1)
periods_before-lt days most day before lt is =
    let short : prefix_len (λ n. nat_le (days (n + 1)) day) (range_with_len 0 most) < length (range_with_len 0 most)
    = rw (← is, length-range_with_len 0 most) lt in
    let stops = prefix_len_stops (λ n. nat_le (days (n + 1)) day) (range_with_len 0 most) 0 short in
    let at : nat_le (days (get_or (range_with_len 0 most) before 0 + 1)) day ≡ false = rw is stops in
    let here : nat_le (days (before + 1)) day ≡ false = subst (λ n. nat_le (days (n + 1)) day ≡ false) (place most before lt) at in
    leb-false (days (before + 1)) day here

-- ---- years

days_in_year-le : (y : ℕ) → 365 ≤ days_in_year y
days_in_year-le y = grind arith

days_of_years-le : (n : ℕ) → 365 * n ≤ days_of_years n
unfolding days_of_years
days_of_years-le zero = omega arith
days_of_years-le (suc n) = omega (arith, days_of_years-le n, days_in_year-le (1970 + n))

days_of_years-next : (n : ℕ) → days_of_years (n + 1) ≡ days_of_years n + days_in_year (1970 + n)
unfolding days_of_years
days_of_years-next n = rw add-one refl

days_of_months-next : (y n : ℕ) → days_of_months y (n + 1) ≡ days_of_months y n + days_in_month y (n + 1)
unfolding days_of_months
days_of_months-next y n = rw add-one refl

days_of_months-zero : (y : ℕ) → days_of_months y 0 ≡ 0
unfolding days_of_months
days_of_months-zero y = refl

days_of_years-zero : days_of_years 0 ≡ 0
unfolding days_of_years
days_of_years-zero = refl

-- ---- a day by its year, month and day of the month

-- a day before the end of the calendar lies in a year of it
record IsInYear (day n : ℕ) : Type 0 where
  small : n < 8030
  begun : days_of_years n ≤ day
  not_over : day < days_of_years n + days_in_year (1970 + n)

IsInYear-years_before : (day : ℕ) → day ≤ 2930018 → IsInYear day (years_before day)
unfolding years_before
IsInYear-years_before day le =
    let n : ℕ = years_before day in
    let begun = periods_before-le days_of_years 8030 day n (omega (arith, days_of_years-zero)) refl in
    let small : n < 8030 = omega (arith, days_of_years-le n, periods_before-most days_of_years 8030 day) in
    let over = periods_before-lt days_of_years 8030 day n small refl in
    record { small = small; begun = begun; not_over = omega (arith, days_of_years-next n) }

-- a day of a year lies in a month of it
record IsInMonth (y day m : ℕ) : Type 0 where
  small : m < 12
  begun : days_of_months y m ≤ day
  not_over : day < days_of_months y m + days_in_month y (m + 1)

IsInMonth-months_before : (y day : ℕ) → day < days_in_year y → IsInMonth y day (months_before y day)
unfolding months_before
IsInMonth-months_before y day lt =
    let m : ℕ = months_before y day in
    let begun = periods_before-le (days_of_months y) 12 day m (omega (arith, days_of_months-zero y)) refl in
    let most = periods_before-most (days_of_months y) 12 day in
    let small : m < 12 = elim (cases_lt m 12) [
      | inl less ↦ less
      | inr all ↦
          let is : m ≡ 12 = omega arith in
          let year = subst (λ k. days_of_months y k ≤ day) is begun in
          absurd (omega (arith, days_of_months_all y))
    ] in
    let over = periods_before-lt (days_of_months y) 12 day m small refl in
    record { small = small; begun = begun; not_over = omega (arith, days_of_months-next y m) }

-- the days before a date are counted by its year, month and day of the month
days_from_civil-is : (n m d day : ℕ) → days_of_years n + days_of_months (1970 + n) m + d ≡ day → days_from_civil (1970 + n) (m + 1) (d + 1) ≡ day
days_from_civil-is n m d day sum =
    let years : 1970 + n - 1970 ≡ n = omega arith in
    let months : m + 1 - 1 ≡ m = omega arith in
    let rest : d + 1 - 1 ≡ d = omega arith in
    rw (years, months, rest) sum

-- a moment by its day, hour, minute and second
clock : (seconds : ℕ) → seconds / 86400 * 86400 + seconds % 86400 / 3600 * 3600 + seconds % 3600 / 60 * 60 + seconds % 60 ≡ seconds
clock seconds = omega arith

-- ---- the text

-- the library's text of a moment is its IMF-fixdate
pub date_text-fixed_date : (d : HttpDate) (seconds : ℕ) → seconds ≤ 253153600000 → unix_secs d ≡ seconds → date_text d ≡ fixed_date seconds
unfolding fixed_date
date_text-fixed_date d seconds le same =
    let day : ℕ = seconds / 86400 in
    let year = IsInYear-years_before day (omega arith) in
    let month = IsInMonth-months_before (year_of day) (day_of_year day) (omega (arith, year.begun, year.not_over)) in
    let days = days_from_civil-is (years_before day) (months_before (year_of day) (day_of_year day))
    (day_of_year day - days_of_months (year_of day) (months_before (year_of day) (day_of_year day))) day (omega (arith, year.begun, month.begun)) in
    date_text_is d (record {
      year = year_of day;
      mon = month_of day;
      day = day_of_month day;
      hour = seconds % 86400 / 3600;
      min = seconds % 3600 / 60;
      sec = seconds % 60;
      wday = weekday day;
    })
    (is_valid_complete _ (
      ((omega arith, omega (arith, year.small)), (omega arith, omega (arith, month.small)), (omega arith, omega (arith, month.begun, month.not_over))),
      (omega arith, omega arith, omega arith),
      ap weekday (sym days),
    ))
    (same ∙ rw days (sym (clock seconds)))
