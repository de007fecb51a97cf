use Rattle.std.proofs.Common.{arith, ◌≡◌, ◌≤◌, ◌<◌, ◌+◌, ◌-◌, ◌*◌, ◌^◌, ℕ, List, [], ◌∷◌, length, true, ◌&&◌, get_or, nat_lt, nat_le}
use Rattle.std.specs.List.{list_all}
use Rattle.std.specs.Char.{is_ascii_digit, digit_value}
use Rattle.std.specs.Str.{all_ascii_digits}
use Rattle.std.specs.Str.Parse.{digits_value, digits_value_after}
use Rattle.std.proofs.lemmas.Bool.Decides.{nat_tests}
use Rattle.std.proofs.lemmas.Str.Parse.{IsNumeralModel, numerals_by_value, tells_all_ascii_digits, digits_value_short}
use Rattle.http_edge.specs.HeadFault.{is_length}
use Rattle.http_edge.proofs.RequestLine.{both}
use Rattle.http_edge.proofs.body_length.number.Goals as goal

grows : (v : ℕ) (ds : List ℕ) → v ≤ digits_value_after 10 v ds
grows v [] = omega arith
grows v (d ∷ ds) = let more : v * 10 + digit_value d ≤ digits_value_after 10 (v * 10 + digit_value d) ds = grows (v * 10 + digit_value d) ds in omega arith

own : IsNumeralModel (λ ds. all_ascii_digits ds ≡ true) (digits_value 10)
own = numerals_by_value (λ ds. all_ascii_digits ds ≡ true) tells_all_ascii_digits

all_digits : (ds : List ℕ) → list_all is_ascii_digit ds ≡ true → all_ascii_digits ds ≡ true
all_digits ds is = is

short : (text : List ℕ) → is_length text ≡ true → digits_value 10 text < 10 ^ 15
short text is =
    let parts = both (nat_lt 0 (length text) && nat_le (length text) 15) (list_all is_ascii_digit text) is in
    let few : length text ≤ 15 = grind (arith, nat_tests, (both (nat_lt 0 (length text)) (nat_le (length text) 15) parts.0).1) in
    digits_value_short own text 15 (all_digits text parts.1) few

digit_is : (d : ℕ) → is_ascii_digit d ≡ true → digit_value d ≡ d - 48
digit_is d is = grind (arith, nat_tests)

step : (v : ℕ) (rest text : List ℕ) → digits_value_after 10 v rest ≡ digits_value 10 text → list_all is_ascii_digit rest ≡ true → is_length text ≡ true
    → 1 ≤ length rest → v * 10 + (get_or rest 0 0 - 48) < 10 ^ 15
step v [] text same digits is some = absurd (omega arith)
step v (d ∷ ds) text same digits is some =
    let more : v * 10 + digit_value d ≤ digits_value_after 10 (v * 10 + digit_value d) ds = grows (v * 10 + digit_value d) ds in
    let first : digit_value d ≡ d - 48 = digit_is d (both (is_ascii_digit d) (list_all is_ascii_digit ds) digits).0 in
    omega (arith, short text is)

pub overflow_mul-value : goal.overflow_mul-value
overflow_mul-value c = omega (arith, step c.digits.value c.digits.rest.now c.args.text.now c.digits.invariant.same c.digits.invariant.digits c.requires c.in-len1-up.len_at_least)

pub overflow_add-value : goal.overflow_add-value
overflow_add-value c = omega (arith, step c.digits.value c.digits.rest.now c.args.text.now c.digits.invariant.same c.digits.invariant.digits c.requires c.in-len1-up.len_at_least)
