-- The days of this crate's calendar are those of the library below, and a moment's text tells the moment.
use Rattle.std.proofs.Common.{inl, inr, ◌≡◌, ℕ, zero, suc, ◌+◌, ◌*◌, ◌/◌, ◌%◌, ◌<◌, ◌≤◌, Bool, true, false, nat_lt, if◌then◌else◌, List, ◌∷◌, ◌++◌, None, length, get_or, refl, sym, ap, ◌∙◌, arith, pos, ◌*ℤ◌, ltb-false, ltb-true}
use Rattle.std.specs.Int.{IsInRange}
use Rattle.std.proofs.lemmas.Bool.{cases_lt}
use Rattle.jiff_core.specs.Calendar.{days_from_civil, days_in_month}
use Rattle.jiff_core.specs.Date.{epoch_day}
use Rattle.jiff_core.specs.DateTime.{civil_nanos}
use Rattle.jiff_core.specs.Time.{time_nanos}
use Rattle.jiff_core.specs.declared.civil.date.Date.{Date}
use Rattle.jiff_core.specs.declared.civil.datetime.DateTime.{DateTime}
use Rattle.jiff_core.proofs.CalendarLemmas.{days_in_month_bounds}
use Rattle.jiff_core.proofs.DateLemmas.{days_from_civil-day, days_from_civil-max, days_from_civil-next_month, days_from_civil-next_year, epoch_day_injective}
use Rattle.jiff_core.proofs.DateTimeLemmas.{civil_nanos-parts, time_nanos_bound}
use Rattle.jiff_core.proofs.SignedLemmas.{signed_arith}
use Rattle.jiff_core.proofs.StandardFacts.{known_days}
use Rattle.jiff.specs.Words.{date_text as shown_date, time_text as shown_time}
use Rattle.reset_tokens.specs.Moment.{CalendarDay, day_at, moment_text}

-- a date of the calendar with this day number, from 1970 to 9999
pub record IsDayNumber (n : ℕ) (d : CalendarDay) : Type 0 where
  pub number : days_from_civil (pos d.year) d.month d.day ≡ pos n
  pub late : 1970 ≤ d.year
  pub early : d.year ≤ 9999
  pub month_in : IsInRange 1 12 d.month
  pub day_in : IsInRange 1 (days_in_month (pos d.year) d.month) d.day

in_month : (n : ℕ) (d : CalendarDay) → IsDayNumber n d → d.day < days_in_month (pos d.year) d.month
    → IsDayNumber (suc n) (record { year = d.year; month = d.month; day = d.day + 1 })
in_month n d is lt = record {
  number = let next = days_from_civil-day (pos d.year) d.month d.day (d.day + 1) is.day_in.0 (omega arith) in omega (arith, signed_arith, next, is.number);
  late = is.late;
  early = is.early;
  month_in = is.month_in;
  day_in = (omega arith, omega arith);
}

next_month : (n : ℕ) (d : CalendarDay) → IsDayNumber n d → d.day ≡ days_in_month (pos d.year) d.month → d.month < 12
    → IsDayNumber (suc n) (record { year = d.year; month = d.month + 1; day = 1 })
next_month n d is last lt = record {
  number = let next = days_from_civil-next_month (pos d.year) d.month d.day is.month_in.0 last in omega (arith, signed_arith, next, is.number);
  late = is.late;
  early = is.early;
  month_in = (omega arith, omega arith);
  day_in = (omega arith, omega (arith, days_in_month_bounds (pos d.year) (d.month + 1)));
}

-- the last day of a December, by its parts
last_day : (n year month day : ℕ) → days_from_civil (pos year) month day ≡ pos n → month ≡ 12 → day ≡ days_in_month (pos year) month
    → days_from_civil (pos year) 12 31 ≡ pos n
last_day n year month day number december last =
    let long : day ≡ 31 = last ∙ ap (days_in_month (pos year)) december in
    rw (← december, ← long) number

before_the_end : (n year : ℕ) → n < 2932896 → year ≤ 9999 → days_from_civil (pos year) 12 31 ≡ pos n → year < 9999
before_the_end n year lt early number = elim (cases_lt year 9999) [
  | inl before ↦ before
  | inr last ↦
      let is : year ≡ 9999 = omega arith in
      let end : pos 2932896 ≡ pos n = sym days_from_civil-max ∙ (rw is at number) in
      absurd (omega (arith, signed_arith, end))
]

next_year : (n : ℕ) (d : CalendarDay) → n < 2932896 → IsDayNumber n d → d.day ≡ days_in_month (pos d.year) d.month → d.month ≡ 12
    → IsDayNumber (suc n) (record { year = d.year + 1; month = 1; day = 1 })
next_year n d small is last december =
    let number = last_day n d.year d.month d.day is.number december last in
    record {
      number =
          let next = days_from_civil-next_year (pos d.year) (pos (d.year + 1)) (omega (arith, signed_arith)) (omega (arith, signed_arith)) in
          omega (arith, signed_arith, next, number);
      late = omega (arith, is.late);
      early = omega (arith, before_the_end n d.year small is.early number);
      month_in = (omega arith, omega arith);
      day_in = (omega arith, omega (arith, days_in_month_bounds (pos (d.year + 1)) 1));
    }

by_tests : (n : ℕ) (d : CalendarDay) → n < 2932896 → IsDayNumber n d → (inside more : Bool)
    → nat_lt d.day (days_in_month (pos d.year) d.month) ≡ inside → nat_lt d.month 12 ≡ more
    → IsDayNumber (suc n) (if inside then record { year = d.year; month = d.month; day = d.day + 1 }
    else (if more then record { year = d.year; month = d.month + 1; day = 1 } else record { year = d.year + 1; month = 1; day = 1 }))
by_tests n d small is true more day month = in_month n d is (ltb-true _ _ day)
by_tests n d small is false true day month =
    next_month n d is (omega (arith, ltb-false _ _ day, is.day_in)) (ltb-true _ _ month)
by_tests n d small is false false day month =
    next_year n d small is (omega (arith, ltb-false _ _ day, is.day_in)) (omega (arith, ltb-false _ _ month, is.month_in))

pub IsDayNumber-day_at : (n : ℕ) → n ≤ 2932896 → IsDayNumber n (day_at n)
unfolding day_at
IsDayNumber-day_at zero le = record {
  number = known_days.0;
  late = omega arith;
  early = omega arith;
  month_in = (omega arith, omega arith);
  day_in = (omega arith, omega arith);
}
IsDayNumber-day_at (suc n) le = by_tests n (day_at n) (omega arith) (IsDayNumber-day_at n (omega arith)) _ _ refl refl

-- what the library shows of a moment in UTC is the moment's text
pub shown_text : (moment : ℕ) (dt : DateTime) → moment ≤ 250000000000 → civil_nanos dt ≡ pos moment *ℤ pos 1000000000
    → shown_date dt.date ++ 32 ∷ shown_time None dt.time ≡ moment_text moment
unfolding moment_text
shown_text moment dt le same =
    let n : ℕ = moment / 86400 in
    let is = IsDayNumber-day_at n (omega arith) in
    let d : CalendarDay = day_at n in
    let date : Date = record {
      year = pos d.year;
      month = d.month;
      day = d.day;
      year_in = (omega (arith, signed_arith, is.early), omega (arith, signed_arith, is.early));
      month_in = is.month_in;
      day_in = is.day_in;
    } in
    let epoch : epoch_day dt.date ≡ pos n = omega (arith, signed_arith, civil_nanos-parts dt, time_nanos_bound dt.time) in
    let nanos : time_nanos dt.time ≡ moment % 86400 * 1000000000 = omega (arith, signed_arith, civil_nanos-parts dt, time_nanos_bound dt.time) in
    let parts = epoch_day_injective dt.date date (epoch ∙ sym is.number) in
    let hour : dt.time.hour ≡ moment % 86400 / 3600 = omega arith in
    let minute : dt.time.minute ≡ moment % 86400 % 3600 / 60 = omega arith in
    let second : dt.time.second ≡ moment % 86400 % 60 = omega arith in
    let whole : dt.time.subsec_nanosecond ≡ 0 = omega arith in
    rw (parts.0, parts.1, parts.2, hour, minute, second, whole) refl

-- ---- a text has one moment

pub length-moment_text : (moment : ℕ) → length (moment_text moment) ≡ 19
unfolding moment_text
length-moment_text moment = refl

pub moment_text-fifth : (moment : ℕ) → get_or (moment_text moment) 4 0 ≡ 45
unfolding moment_text
moment_text-fifth moment = refl

-- two digits tell a number below 100
two_told : (a b : ℕ) → a < 100 → b < 100 → 48 + a / 10 ≡ 48 + b / 10 → 48 + a % 10 ≡ 48 + b % 10 → a ≡ b
two_told a b small other tens ones = omega arith

pub moment_text-injective : (a b : ℕ) → a ≤ 250000000000 → b ≤ 250000000000 → moment_text a ≡ moment_text b → a ≡ b
unfolding moment_text
moment_text-injective a b first second same =
    let at = λ (i : ℕ). ap (λ (text : List ℕ). get_or text i 0) same in
    let m : ℕ = a / 86400 in
    let n : ℕ = b / 86400 in
    let one = IsDayNumber-day_at m (omega arith) in
    let two = IsDayNumber-day_at n (omega arith) in
    let century : (day_at m).year / 100 ≡ (day_at n).year / 100 = two_told _ _ (omega (arith, one.early)) (omega (arith, two.early)) (at 0) (at 1) in
    let rest : (day_at m).year % 100 ≡ (day_at n).year % 100 = two_told _ _ (omega arith) (omega arith) (at 2) (at 3) in
    let year : (day_at m).year ≡ (day_at n).year = omega arith in
    let month : (day_at m).month ≡ (day_at n).month = two_told _ _ (omega (arith, one.month_in)) (omega (arith, two.month_in)) (at 5) (at 6) in
    let day : (day_at m).day ≡ (day_at n).day = two_told _ _ (omega (arith, one.day_in, days_in_month_bounds (pos (day_at m).year) (day_at m).month)) (omega (arith, two.day_in, days_in_month_bounds (pos (day_at n).year) (day_at n).month)) (at 8) (at 9) in
    let numbers : pos m ≡ pos n = sym one.number ∙ rw (year, month, day) two.number in
    let hour : a % 86400 / 3600 ≡ b % 86400 / 3600 = two_told _ _ (omega arith) (omega arith) (at 11) (at 12) in
    let minute : a % 86400 % 3600 / 60 ≡ b % 86400 % 3600 / 60 = two_told _ _ (omega arith) (omega arith) (at 14) (at 15) in
    let second : a % 86400 % 60 ≡ b % 86400 % 60 = two_told _ _ (omega arith) (omega arith) (at 17) (at 18) in
    omega (arith, signed_arith)
