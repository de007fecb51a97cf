-- Numerals over any digits, and what the tables of base 36 and base 62 say.
use Rattle.std.proofs.Common.{◌≡◌, ℕ, ◌+◌, ◌-◌, ◌*◌, ◌^◌, ◌<◌, ◌≤◌, ◌==◌, nat_lt, true, not, Some, None, if◌then◌else◌, List, [], ◌∷◌, ◌++◌, length, take, drop, slice_index, Contains, refl, sym, ap, ◌∙◌, arith, length-append}
use Rattle.std.specs.List.{position, position_or_len}
use Rattle.std.proofs.Math.Nat.{le-mul_of_pos_right, mul_assoc, one-le-pow, one-mul, pow-suc, pow-zero}
use Rattle.std.proofs.lemmas.Bool.{agree_below_at, eq-eqb, eqb-true, ltb-true}
use Rattle.std.proofs.lemmas.List.{get_or_default, take-append-drop}
use Rattle.std.proofs.lemmas.Nat.{pow-add}
use Rattle.crypto_text.specs.declared.numeral.Base.{Base}
use Rattle.crypto_text.specs.declared.numeral.Base.TheVariants.{Base36, Base62}
use Rattle.crypto_text.specs.Numeral.{base36_digits, base62_digits, digit_value, digits_in, value_of}

-- the digits are more than one, and each stands once
pub record IsDigitTable (digits : List ℕ) : Type 0 where
  pub many : 2 ≤ length digits
  pub once : (d : ℕ) → d < length digits → digit_value digits (slice_index digits d) ≡ d

pub length-base36_digits : length base36_digits ≡ 36
unfolding base36_digits
length-base36_digits = refl

pub length-base62_digits : length base62_digits ≡ 62
unfolding base62_digits
length-base62_digits = refl

pub IsDigitTable-base36 : IsDigitTable base36_digits
unfolding base36_digits digit_value
IsDigitTable-base36 = record {
  many = omega arith;
  once = λ d lt. eqb-true _ d (agree_below_at (λ k. digit_value base36_digits (slice_index base36_digits k) == k) (λ k. true) 36 d refl lt);
}

pub IsDigitTable-base62 : IsDigitTable base62_digits
unfolding base62_digits digit_value
IsDigitTable-base62 = record {
  many = omega arith;
  once = λ d lt. eqb-true _ d (agree_below_at (λ k. digit_value base62_digits (slice_index base62_digits k) == k) (λ k. true) 62 d refl lt);
}

-- ---- the digits by the ranges of ASCII that the code goes by

place_in_base36 : ℕ → ℕ
place_in_base36 c = if nat_lt c 48 then 36 else if nat_lt c 58 then c - 48 else if nat_lt c 97 then 36 else if nat_lt c 123 then c - 87 else 36

place_in_base62 : ℕ → ℕ
place_in_base62 c =
    if nat_lt c 48 then 62 else if nat_lt c 58 then c - 48 else if nat_lt c 65 then 62 else if nat_lt c 91 then c - 55
    else if nat_lt c 97 then 62 else if nat_lt c 123 then c - 61 else 62

place_in_base36-is : (c : ℕ) → c < 256 → position_or_len (λ digit. digit == c) base36_digits ≡ place_in_base36 c
unfolding base36_digits place_in_base36
place_in_base36-is c lt = eqb-true _ _ (agree_below_at (λ k. position_or_len (λ digit. digit == k) base36_digits == place_in_base36 k) (λ k. true) 256 c refl lt)

place_in_base62-is : (c : ℕ) → c < 256 → position_or_len (λ digit. digit == c) base62_digits ≡ place_in_base62 c
unfolding base62_digits place_in_base62
place_in_base62-is c lt = eqb-true _ _ (agree_below_at (λ k. position_or_len (λ digit. digit == k) base62_digits == place_in_base62 k) (λ k. true) 256 c refl lt)

pub position_in_base36 : (c : ℕ) → c < 256 → position (λ digit. digit == c) base36_digits
    ≡ (if nat_lt c 48 then None else if nat_lt c 58 then Some (c - 48) else if nat_lt c 97 then None else if nat_lt c 123 then Some (c - 87) else None)
unfolding place_in_base36
position_in_base36 c lt = rw (place_in_base36-is c lt, length-base36_digits) (grind arith)

pub position_in_base62 : (c : ℕ) → c < 256 → position (λ digit. digit == c) base62_digits
    ≡ (if nat_lt c 48 then None else if nat_lt c 58 then Some (c - 48) else if nat_lt c 65 then None else if nat_lt c 91 then Some (c - 55)
    else if nat_lt c 97 then None else if nat_lt c 123 then Some (c - 61) else None)
unfolding place_in_base62
position_in_base62 c lt = rw (place_in_base62-is c lt, length-base62_digits) (grind arith)

-- the digits are ASCII
pub ascii_in_base36 : (d : ℕ) → d < length base36_digits → slice_index base36_digits d < 128
unfolding base36_digits
ascii_in_base36 d lt = ltb-true _ 128 (agree_below_at (λ k. nat_lt (slice_index base36_digits k) 128) (λ k. true) 36 d refl lt)

pub ascii_in_base62 : (d : ℕ) → d < length base62_digits → slice_index base62_digits d < 128
unfolding base62_digits
ascii_in_base62 d lt = ltb-true _ 128 (agree_below_at (λ k. nat_lt (slice_index base62_digits k) 128) (λ k. true) 62 d refl lt)

-- ---- values

-- no digits count nothing
pub value_of-nil : (digits : List ℕ) → value_of digits [] ≡ 0
unfolding value_of
value_of-nil digits = refl

value_of-cons : (digits : List ℕ) (c : ℕ) (rest : List ℕ) → value_of digits (c ∷ rest) ≡ digit_value digits c * length digits ^ length rest + value_of digits rest
unfolding value_of
value_of-cons digits c rest = refl

shifted : (d p v q w r a : ℕ) → r ≡ p * q → a ≡ v * q + w → d * r + a ≡ (d * p + v) * q + w
shifted d p v q w r a place here = rw (place, here) (grind (arith, mul_assoc))

-- the digits in front count with the digits behind them
pub value_of-append : (digits xs ys : List ℕ) → value_of digits (xs ++ ys) ≡ value_of digits xs * length digits ^ length ys + value_of digits ys
value_of-append digits [] ys = rw (value_of-nil digits) (omega arith)
value_of-append digits (x ∷ xs) ys =
    let place = ap (λ (n : ℕ). length digits ^ n) (length-append xs ys) ∙ pow-add (length digits) (length xs) (length ys) in
    value_of-cons digits x (xs ++ ys)
    ∙ shifted (digit_value digits x) (length digits ^ length xs) (value_of digits xs) (length digits ^ length ys) (value_of digits ys) _ _ place (value_of-append digits xs ys)
    ∙ ap (λ (v : ℕ). v * length digits ^ length ys + value_of digits ys) (sym (value_of-cons digits x xs))

-- the value of one digit
pub value_of-one : (digits : List ℕ) (c : ℕ) → value_of digits (c ∷ []) ≡ digit_value digits c
value_of-one digits c = value_of-cons digits c [] ∙ rw (value_of-nil digits, pow-zero (length digits)) (omega arith)

-- the first power
pub power_one : (n : ℕ) → n ^ 1 ≡ n
power_one n = pow-suc n 0 ∙ rw (pow-zero n) (one-mul n)

-- one more digit
pub value_of-push : (digits text : List ℕ) (c : ℕ) → value_of digits (text ++ c ∷ []) ≡ value_of digits text * length digits + digit_value digits c
value_of-push digits text c = rw (value_of-append digits text (c ∷ []), value_of-one digits c) (ap (λ (p : ℕ). value_of digits text * p + digit_value digits c) (power_one (length digits)))

-- more digits are no less
pub value_of-take-le : (digits text : List ℕ) (i : ℕ) → 1 ≤ length digits → value_of digits (take i text) ≤ value_of digits text
value_of-take-le digits text i some =
    let parts = ap (value_of digits) (sym (take-append-drop i text)) ∙ value_of-append digits (take i text) (drop i text) in
    let place = one-le-pow (length (drop i text)) (length digits) some in
    let more = le-mul_of_pos_right (value_of digits (take i text)) place in
    omega arith

-- the digits of either base are a table
pub IsDigitTable-digits_in : (base : Base) → IsDigitTable (digits_in base)
IsDigitTable-digits_in Base36 = IsDigitTable-base36
IsDigitTable-digits_in Base62 = IsDigitTable-base62

-- `:` is no digit of base 62, so a numeral ends before one
pub base62_digits-no_colon : ¬ (Contains base62_digits 58)
unfolding base62_digits
base62_digits-no_colon found =
    let other = agree_below_at (λ k. not (slice_index base62_digits k == 58)) (λ k. true) 62 found.0 refl found.1 in
    let same : slice_index base62_digits found.0 == 58 ≡ true = eq-eqb _ 58 (get_or_default base62_digits found.0 0 58 found.1 ∙ found.2) in
    cc (other, ap not same)

-- `-` is no digit of base 36
pub base36_digits-no_dash : ¬ (Contains base36_digits 45)
unfolding base36_digits
base36_digits-no_dash found =
    let other = agree_below_at (λ k. not (slice_index base36_digits k == 45)) (λ k. true) 36 found.0 refl found.1 in
    let same : slice_index base36_digits found.0 == 45 ≡ true = eq-eqb _ 45 (get_or_default base36_digits found.0 0 45 found.1 ∙ found.2) in
    cc (other, ap not same)
