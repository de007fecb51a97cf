-- The numeral without leading zero, by its last digit.
use Rattle.std.proofs.Common.{◌≡◌, ℕ, zero, suc, ◌+◌, ◌*◌, ◌/◌, ◌%◌, ◌^◌, ◌<◌, ◌≤◌, inl, inr, List, [], ◌∷◌, ◌++◌, map, length, slice_index, Contains, refl, sym, ap, ◌∙◌, arith, length-append}
use Rattle.std.specs.Int.Digits.{digits_of}
use Rattle.std.proofs.Math.Nat.{div-eq_of_lt, div-lt_self, mod-eq_of_lt, mod-lt, pow-suc}
use Rattle.std.proofs.lemmas.Bool.{cases_lt, ne_eqb}
use Rattle.std.proofs.lemmas.List.{map-append}
use Rattle.std.proofs.lemmas.List.Elements.{All-push, All-nil, Contains-get_or}
use Rattle.std.proofs.lemmas.Int.Digits.{digits_of_step}
use Rattle.std.proofs.lemmas.Nat.{div_below, le-div}
use Rattle.crypto_text.specs.Numeral.{AreDigits, IsNumeral, numeral_of, value_of}
use Rattle.crypto_text.proofs.NumeralLemmas.{IsDigitTable, power_one, value_of-one, value_of-push}

numeral_of-positive : (digits : List ℕ) (n : ℕ) → 0 < n → numeral_of digits n ≡ map (slice_index digits) (digits_of (length digits) n)
unfolding numeral_of
numeral_of-positive digits n positive = let other = ne_eqb n 0 (λ is. omega arith) in rw other refl

numeral_of-step : (digits : List ℕ) (n : ℕ) → 2 ≤ length digits → 0 < n
    → numeral_of digits n ≡ map (slice_index digits) (digits_of (length digits) (n / length digits)) ++ slice_index digits (n % length digits) ∷ []
numeral_of-step digits n many positive =
    numeral_of-positive digits n positive ∙ ap (map (slice_index digits)) (digits_of_step (length digits) n many positive)
    ∙ map-append (slice_index digits) (digits_of (length digits) (n / length digits)) (n % length digits ∷ [])

below-quotient : (n b : ℕ) → n < b → n / b ≡ 0
below-quotient n b lt = div-eq_of_lt lt

below-remainder : (n b : ℕ) → n < b → n % b ≡ n
below-remainder n b lt = mod-eq_of_lt lt

-- a number below the base is one digit
pub numeral_of-small : (digits : List ℕ) (n : ℕ) → 2 ≤ length digits → n < length digits → numeral_of digits n ≡ slice_index digits n ∷ []
unfolding numeral_of
numeral_of-small digits zero many lt = refl
numeral_of-small digits (suc n) many lt =
    numeral_of-step digits (suc n) many (omega arith) ∙ rw (below-quotient (suc n) (length digits) lt, below-remainder (suc n) (length digits) lt) refl

quotient-positive : (n b : ℕ) → 2 ≤ b → b ≤ n → 0 < n / b
quotient-positive n b many le = le-div 1 n b (omega arith) (omega arith)

-- another ends in the digit of its remainder
pub numeral_of-large : (digits : List ℕ) (n : ℕ) → 2 ≤ length digits → length digits ≤ n
    → numeral_of digits n ≡ numeral_of digits (n / length digits) ++ slice_index digits (n % length digits) ∷ []
numeral_of-large digits n many le =
    numeral_of-step digits n many (omega arith)
    ∙ ap (λ (front : List ℕ). front ++ slice_index digits (n % length digits) ∷ []) (sym (numeral_of-positive digits (n / length digits) (quotient-positive n (length digits) many le)))

-- ---- the laws of a numeral, each by its digits in turn

quotient_more : (n b most : ℕ) → 2 ≤ b → b ≤ n → n ≤ suc most → n / b ≤ most
quotient_more n b most many le within = let smaller : n / b < n = div-lt_self (omega arith) (omega arith) in omega arith

split : (n b : ℕ) → 0 < b → n / b * b + n % b ≡ n
split n b positive = omega arith

value-small : (digits : List ℕ) (n : ℕ) → IsDigitTable digits → n < length digits → value_of digits (numeral_of digits n) ≡ n
value-small digits n table lt = ap (value_of digits) (numeral_of-small digits n table.many lt) ∙ value_of-one digits (slice_index digits n) ∙ table.once n lt

value-within : (digits : List ℕ) → IsDigitTable digits → (most n : ℕ) → n ≤ most → value_of digits (numeral_of digits n) ≡ n
value-within digits table zero n le = let many = table.many in value-small digits n table (omega arith)
value-within digits table (suc most) n le =
    let b : ℕ = length digits in
    let many = table.many in
    elim (cases_lt n b) [
      | inl small ↦ value-small digits n table small
      | inr large ↦
          let front = value-within digits table most (n / b) (quotient_more n b most many large le) in
          let last = table.once (n % b) (mod-lt n (omega arith)) in
          ap (value_of digits) (numeral_of-large digits n many large) ∙ value_of-push digits (numeral_of digits (n / b)) (slice_index digits (n % b))
          ∙ rw (front, last) (split n b (omega arith))
    ]

-- a numeral is of digits alone
digits-within : (digits : List ℕ) → 2 ≤ length digits → (most n : ℕ) → n ≤ most → AreDigits digits (numeral_of digits n)
digits-within digits many zero n le = rw (numeral_of-small digits n many (omega arith)) (All-push (Contains digits) [] _ (All-nil (Contains digits)) (Contains-get_or digits n 0 (omega arith)))
digits-within digits many (suc most) n le =
    let b : ℕ = length digits in
    elim (cases_lt n b) [
      | inl small ↦ rw (numeral_of-small digits n many small) (All-push (Contains digits) [] _ (All-nil (Contains digits)) (Contains-get_or digits n 0 small))
      | inr large ↦
          rw (numeral_of-large digits n many large)
          (All-push (Contains digits) _ _ (digits-within digits many most (n / b) (quotient_more n b most many large le)) (Contains-get_or digits (n % b) 0 (mod-lt n (omega arith))))
    ]

-- and of one at least
length-numeral_of-positive : (digits : List ℕ) (n : ℕ) → 2 ≤ length digits → 0 < length (numeral_of digits n)
length-numeral_of-positive digits n many = elim (cases_lt n (length digits)) [
  | inl small ↦ rw (numeral_of-small digits n many small) (omega arith)
  | inr large ↦ rw (numeral_of-large digits n many large, length-append) (omega arith)
]

-- k digits are enough below the k-th power of the base
pub length-numeral_of-le : (digits : List ℕ) → 2 ≤ length digits → (k n : ℕ) → n < length digits ^ suc k → length (numeral_of digits n) ≤ suc k
length-numeral_of-le digits many zero n lt =
    let small : n < length digits = omega (arith, power_one (length digits)) in
    rw (numeral_of-small digits n many small) (omega arith)
length-numeral_of-le digits many (suc k) n lt =
    let b : ℕ = length digits in
    elim (cases_lt n b) [
      | inl small ↦ rw (numeral_of-small digits n many small) (omega arith)
      | inr large ↦
          let power = pow-suc b (suc k) in
          let below : n / b < b ^ suc k = div_below n b (b ^ suc k) (omega arith) (omega arith) in
          let front = length-numeral_of-le digits many k (n / b) below in
          rw (numeral_of-large digits n many large, length-append) (omega arith)
    ]

-- the numeral of n is one of n
pub IsNumeral-numeral_of : (digits : List ℕ) (n : ℕ) → IsDigitTable digits → IsNumeral digits (numeral_of digits n) n
IsNumeral-numeral_of digits n table = record {
  nonempty = length-numeral_of-positive digits n table.many;
  only_digits = digits-within digits table.many n n (omega arith);
  value = value-within digits table n n (omega arith);
}
