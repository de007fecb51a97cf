-- Reading a number in decimal.
use Rattle.std.proofs.Common.{◌≡◌, ◌↔◌, ◌⊎◌, ℕ, ◌^◌, ◌<◌, ◌&&◌, true, List, [], ◌∷◌, length, get_or, None, Option, Some, Result, Ok, Err, arith, bytes_eq, decimal, eq-zero-or-pos, inl, inr, nat_lt, refl, sym, ap, ◌∙◌, subst}
use Rattle.std.proofs.lemmas.Bool.{and_parts, lt-ltb, ltb-true}
use Rattle.std.proofs.lemmas.Fmt.{decimal-digits_value, decimal_digit, decimal_is_IsNumeral, decimal_nonempty, digits_decimal, first_decimal, parse-decimal}
use Rattle.std.proofs.lemmas.Option.{cond_some}
use Rattle.std.proofs.lemmas.Result.{OkIff-at_ok}
use Rattle.std.proofs.lemmas.Slice.Eq.{bytes_eq-Decides}
use Rattle.std.proofs.lemmas.Str.Parse.{IsNumeralModel, numerals_by_value, tells_by_index, without_leading_plus_none}
use Rattle.std.specs.Int.{IsInRange}
use Rattle.std.specs.Result.{result_ok}
use Rattle.std.specs.Str.Parse.{ParsesUnsigned, digits_value, without_leading_plus}
use Rattle.crypto_text.specs.Numeral.{decimal_of}

-- the text is the number in decimal, and the number has 64 bits
abbrev pub IsDecimal : List ℕ → ℕ → Type 0
IsDecimal text n = (text ≡ decimal n) × (n < 2 ^ 64)

-- the text begins as a number in decimal does
abbrev pub BeginsAsDecimal : List ℕ → Type 0
BeginsAsDecimal text = IsInRange 49 57 (get_or text 0 0) ⊎ (text ≡ 48 ∷ [])

-- ---- the definition

pub decimal_of-Some : (text : List ℕ) (n : ℕ) → IsDecimal text n → decimal_of text ≡ Some n
unfolding decimal_of
decimal_of-Some text n is =
    let value : digits_value 10 text ≡ n = ap (digits_value 10) is.0 ∙ (decimal_is_IsNumeral n is.1).1 in
    let small : nat_lt n (2 ^ 64) ≡ true = lt-ltb n (2 ^ 64) is.1 in
    let same : bytes_eq text (decimal n) ≡ true = (bytes_eq-Decides text (decimal n)).1 is.0 in
    rw (value, small, same) refl

pub IsDecimal-found : (text : List ℕ) (n : ℕ) → decimal_of text ≡ Some n → IsDecimal text n
unfolding decimal_of
IsDecimal-found text n is =
    let value : ℕ = digits_value 10 text in
    let found = cond_some (nat_lt value (2 ^ 64) && bytes_eq text (decimal value)) value n is in
    let both = and_parts (nat_lt value (2 ^ 64)) (bytes_eq text (decimal value)) found.0 in
    subst (IsDecimal text) found.1 ((bytes_eq-Decides text (decimal value)).0 both.1, ltb-true value (2 ^ 64) both.0)

pub decimal_of-None : (text : List ℕ) → ((n : ℕ) → ¬ IsDecimal text n) → decimal_of text ≡ None
decimal_of-None text none = at (decimal_of text) refl
  where
    at : (o : Option ℕ) → decimal_of text ≡ o → o ≡ None
    at None is = refl
    at (Some n) is = absurd (none n (IsDecimal-found text n is))

-- what the definition gives is the number of which the text is the decimal
pub decimal_of-tells : (text : List ℕ) (r : Option ℕ) → r ≡ decimal_of text → (n : ℕ) → (r ≡ Some n) ↔ IsDecimal text n
decimal_of-tells text r same n = (λ is. IsDecimal-found text n (sym same ∙ is), λ is. same ∙ decimal_of-Some text n is)

-- ---- reading by `parse`

own : IsNumeralModel (λ ds. (i : ℕ) → i < length ds → IsInRange 48 57 (get_or ds i 0)) (digits_value 10)
own = numerals_by_value _ tells_by_index

pub IsDecimal-begins : (text : List ℕ) (n : ℕ) → IsDecimal text n → BeginsAsDecimal text
IsDecimal-begins text n is = elim (eq-zero-or-pos n) [
  | inl zero ↦ inr (is.0 ∙ ap decimal zero ∙ decimal_digit 0 (omega arith))
  | inr some ↦ let above = first_decimal n some is.1 in let digit = (digits_decimal own n is.1 0 (decimal_nonempty n is.1)).1 in
      inl (rw is.0 (omega (arith, above), digit))
]

-- it has no plus, and a zero stands alone
begins-no_plus : (text : List ℕ) → BeginsAsDecimal text → without_leading_plus text ≡ text
begins-no_plus text (inl first) = without_leading_plus_none text (λ plus. omega (arith, plus, first.0))
begins-no_plus text (inr zero) = without_leading_plus_none text (λ plus. let first : get_or text 0 0 ≡ 48 = ap (λ (t : List ℕ). get_or t 0 0) zero in omega (arith, plus, first))

begins-lone_zero : (text : List ℕ) → BeginsAsDecimal text → get_or text 0 0 ≡ 48 → length text ≡ 1
begins-lone_zero text (inl first) zero = absurd (omega (arith, zero, first.0))
begins-lone_zero text (inr alone) zero = ap length alone

-- what is parsed behind such a beginning is the number of which the text is the decimal
pub IsDecimal-parsed : {E : Type 0} (text : List ℕ) (r : Result ℕ E) (n : ℕ) → BeginsAsDecimal text → ParsesUnsigned 64 10 text r → r ≡ Ok n → IsDecimal text n
IsDecimal-parsed text r n begins parses ok =
    let read = rw (begins-no_plus text begins) at (OkIff-at_ok r _ _ n parses ok) in
    let back = decimal-digits_value own text (own.from text read.0.0.1) read.0.0.0 (begins-lone_zero text begins) read.0.1 in
    (sym back ∙ ap decimal (sym read.1), omega (arith, read.0.1, read.1))

pub parsed-decimal_of : {E : Type 0} (text : List ℕ) (r : Result ℕ E) → BeginsAsDecimal text → ParsesUnsigned 64 10 text r → result_ok r ≡ decimal_of text
parsed-decimal_of {E} text r begins parses = at r refl
  where
    at : (s : Result ℕ E) → r ≡ s → result_ok r ≡ decimal_of text
    at (Ok n) is = rw is (sym (decimal_of-Some text n (IsDecimal-parsed text r n begins parses is)))
    at (Err fault) is = rw is (sym (decimal_of-None text (λ n says. let parsed = parse-decimal 64 n text r says.1 says.1 says.0 parses in cc (parsed, is))))
