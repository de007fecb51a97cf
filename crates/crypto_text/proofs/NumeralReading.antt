-- Reading a numeral digit by digit.
use Rattle.std.proofs.Common.{◌≡◌, ◌↔◌, ℕ, ◌+◌, ◌*◌, ◌^◌, ◌<◌, ◌≤◌, ◌==◌, Bool, true, false, cond, not, Option, Some, None, List, length, get_or, take, Contains, refl, sym, ap, ◌∙◌, subst, arith}
use Rattle.std.specs.List.{position, position_or_len}
use Rattle.std.proofs.lemmas.Bool.{eq-eqb, eqb-true, ltb-false}
use Rattle.std.proofs.lemmas.List.{take_all, take_more}
use Rattle.std.proofs.lemmas.List.Elements.{All-get_or, Contains-get_or}
use Rattle.std.proofs.lemmas.List.Quantifiers as quantifiers
use Rattle.std.proofs.lemmas.List.Sums.{prefix_len_passes}
use Rattle.crypto_text.specs.Numeral.{AreDigits, IsNumeral, digit_value, value_of}
use Rattle.crypto_text.proofs.NumeralLemmas.{value_of-push, value_of-take-le}

cond-Some : (found : Bool) (n value : ℕ) → cond found (Some n) None ≡ Some value → value ≡ n
cond-Some true n value is = cc is
cond-Some false n value is = cc is

cond-None : (found : Bool) (n : ℕ) → cond found (Some n) None ≡ None → found ≡ false
cond-None true n is = cc is
cond-None false n is = refl

-- a digit is found at its value
pub position-Some : (digits : List ℕ) (c value : ℕ) → position (λ digit. digit == c) digits ≡ Some value → Contains digits c × (value ≡ digit_value digits c)
unfolding digit_value
position-Some digits c value is =
    let at = quantifiers.position-Some (λ digit. digit == c) digits value 0 is in
    let found : get_or digits value 0 ≡ c = eqb-true _ c at.1 in
    (subst (Contains digits) found (Contains-get_or digits value 0 at.0), cond-Some _ _ value is)

-- a character that is not found is no digit
pub position-None : (digits : List ℕ) (c : ℕ) → position (λ digit. digit == c) digits ≡ None → ¬ (Contains digits c)
position-None digits c is = λ found.
    let all : length digits ≤ position_or_len (λ digit. digit == c) digits = ltb-false _ _ (cond-None _ _ is) in
    let other = prefix_len_passes (λ digit. not (digit == c)) digits found.0 c (omega (arith, found.1)) in
    let same : get_or digits found.0 c == c ≡ true = rw found.2 (eq-eqb c c refl) in
    let both = sym other ∙ ap not same in
    cc both

-- the value of the digits so far and one more
pub value_of-more : (digits s : List ℕ) (i value size digit total : ℕ) → i < length s → value ≡ value_of digits (take i s) → size ≡ length digits
    → digit ≡ digit_value digits (get_or s i 0) → total ≡ value * size + digit → total ≡ value_of digits (take (i + 1) s)
value_of-more digits s i value size digit total lt so_far base here sum =
    rw (take_more s i 0 lt, value_of-push digits (take i s) (get_or s i 0), ← here, ← so_far, ← base) sum

-- a text with another character is no numeral
pub IsNumeral-not_digit : (digits s : List ℕ) (i n : ℕ) → i < length s → ¬ (Contains digits (get_or s i 0)) → IsNumeral digits s n → ⊥
IsNumeral-not_digit digits s i n lt other numeral = other (All-get_or (Contains digits) s i 0 lt numeral.only_digits)

-- nor one of a number below 2^64, where the front is too large
pub IsNumeral-too_large : (digits s : List ℕ) (i n value size : ℕ) → 2 ≤ length digits → i < length s → value ≡ value_of digits (take i s) → size ≡ length digits
    → ¬ (value * size + digit_value digits (get_or s i 0) < 2 ^ 64) → IsNumeral digits s n → n < 2 ^ 64 → ⊥
IsNumeral-too_large digits s i n value size many lt so_far base large numeral small =
    let front = value_of-more digits s i value size (digit_value digits (get_or s i 0)) _ lt so_far base refl refl in
    let le = value_of-take-le digits s (i + 1) (omega arith) in
    large (omega (arith, numeral.value))

-- what is refused, where it is no numeral
pub refused : {P : Type 0} (r : Option ℕ) (n : ℕ) → r ≡ None → (P → ⊥) → (r ≡ Some n) ↔ P
refused r n none fails = (λ some. absurd (cc (none, some)), λ p. absurd (fails p))

-- what is read to the end
pub read_whole : (digits s : List ℕ) (i value : ℕ) → 0 < length s → length s ≤ i → AreDigits digits (take i s) → value ≡ value_of digits (take i s) → value < 2 ^ 64
    → (n : ℕ) → (Some value ≡ Some n) ↔ (IsNumeral digits s n × (n < 2 ^ 64))
read_whole digits s i value some all digits_so_far so_far small n =
    let whole : take i s ≡ s = take_all i s all in
    let only = rw whole at digits_so_far in
    let counted = rw whole at so_far in (
      λ same. let is : value ≡ n = cc same in (record { nonempty = some; only_digits = only; value = sym counted ∙ is }, omega arith),
      λ numeral. ap (λ (k : ℕ). Some k) (counted ∙ numeral.0.value),
    )
