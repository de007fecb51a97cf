-- A reset text tells its row.
use Rattle.std.proofs.Common.{inl, inr, ◌≡◌, ℕ, suc, ◌^◌, ◌<◌, ◌≤◌, List, [], ◌∷◌, ◌++◌, Option, None, Some, IfSome, length, get_or, drop, refl, sym, ap, ◌∙◌, arith, append_assoc}
use Rattle.std.specs.Fmt.{decimal}
use Rattle.std.specs.Int.{IsInRange}
use Rattle.std.specs.Str.Parse.{digits_value}
use Rattle.std.proofs.lemmas.Bool.{cases_lt}
use Rattle.std.proofs.lemmas.Fmt.{decimal_injective, digits_decimal, digits_value-decimal}
use Rattle.std.proofs.lemmas.List.{get_or_append_left}
use Rattle.std.proofs.lemmas.Str.Parse.{IsNumeralModel, digits_value_short, numerals_by_value, tells_by_index}
use Rattle.pass_hashers.specs.PasswordText.{IsPasswordText}
use Rattle.pass_hashers.proofs.TextLemmas.{fronts_same, text_begins, text_ends}
use Rattle.reset_tokens.specs.Laws.{IsRow}
use Rattle.crypto_text.specs.Moment.{IsMoment}
use Rattle.reset_tokens.specs.Moment.{moment_text}
use Rattle.reset_tokens.specs.ResetToken.{ResetRow, login_text, reset_text}
use Rattle.reset_tokens.proofs.MomentLemmas.{length-moment_text, moment_text-fifth, moment_text-injective}

-- each byte is one of 0 to 9
abbrev pub AreDigits : List ℕ → Type 0
AreDigits text = (i : ℕ) → i < length text → IsInRange 48 57 (get_or text i 0)

pub own : IsNumeralModel AreDigits (digits_value 10)
own = numerals_by_value _ tells_by_index

-- digits end where a text begins with none
digits_end : (a b x y : List ℕ) → AreDigits a → AreDigits b → ¬ IsInRange 48 57 (get_or x 0 0) → ¬ IsInRange 48 57 (get_or y 0 0)
    → a ++ x ≡ b ++ y → (a ≡ b) × (x ≡ y)
digits_end [] [] x y first second x_other y_other same = (refl, same)
digits_end [] (d ∷ b) x y first second x_other y_other same =
    let head : get_or x 0 0 ≡ d = ap (λ (t : List ℕ). get_or t 0 0) same in
    let digit : IsInRange 48 57 d = second 0 (omega arith) in
    absurd (x_other (rw head digit))
digits_end (c ∷ a) [] x y first second x_other y_other same =
    let head : c ≡ get_or y 0 0 = ap (λ (t : List ℕ). get_or t 0 0) same in
    let digit : IsInRange 48 57 c = first 0 (omega arith) in
    absurd (y_other (rw (← head) digit))
digits_end (c ∷ a) (d ∷ b) x y first second x_other y_other same =
    let head : c ≡ d = ap (λ (t : List ℕ). get_or t 0 0) same in
    let tail = digits_end a b x y (λ i lt. first (suc i) (omega (arith, lt))) (λ i lt. second (suc i) (omega (arith, lt))) x_other y_other (ap (drop 1) same) in
    let whole : (c ∷ a) ≡ (d ∷ b) = rw (head, tail.0) refl in
    (whole, tail.1)

-- nor is the text's first byte a digit with more behind it
begins_longer : (text more : List ℕ) → IsPasswordText text → ¬ IsInRange 48 57 (get_or (text ++ more) 0 0)
begins_longer text more is = let begins = text_begins text is in rw (get_or_append_left text more 0 0 begins.0) begins.1

-- eight digits or more
decimal_long : (n : ℕ) → 10000000 ≤ n → n < 2 ^ 64 → 8 ≤ length (decimal n)
decimal_long n large small = elim (cases_lt 7 (length (decimal n))) [
  | inl long ↦ long
  | inr short ↦ absurd (omega (arith, digits_value_short own (decimal n) 7 (digits_decimal own n small) short, digits_value-decimal own n small))
]

-- a login's text and a number differ at the fifth byte
login_or_number : (n moment : ℕ) (x y : List ℕ) → 10000000 ≤ n → n < 2 ^ 64 → decimal n ++ x ≡ moment_text moment ++ y → ⊥
login_or_number n moment x y large small same =
    let long = decimal_long n large small in
    let digit = digits_decimal own n small 4 (omega (arith, long)) in
    let mark = ap (λ (t : List ℕ). get_or t 4 0) same in
    let ends = sym (get_or_append_left (decimal n) x 0 4 (omega (arith, long))) ∙ mark
    ∙ get_or_append_left (moment_text moment) y 0 4 (omega (arith, length-moment_text moment)) ∙ moment_text-fifth moment in
    omega (arith, digit.0, ends)

login_ends : (n : ℕ) (a b : Option ℕ) (x y : List ℕ) → 10000000 ≤ n → n < 2 ^ 64 → IfSome a IsMoment → IfSome b IsMoment
    → login_text a ++ (decimal n ++ x) ≡ login_text b ++ (decimal n ++ y) → (a ≡ b) × (x ≡ y)
login_ends n None None x y large small first second same = (refl, (fronts_same (decimal n) x (decimal n) y same refl).1)
login_ends n None (Some t) x y large small first second same = absurd (login_or_number n t x (decimal n ++ y) large small same)
login_ends n (Some t) None x y large small first second same = absurd (login_or_number n t y (decimal n ++ x) large small (sym same))
login_ends n (Some t) (Some u) x y large small first second same =
    let parts = fronts_same (moment_text t) (decimal n ++ x) (moment_text u) (decimal n ++ y) same (length-moment_text t ∙ sym (length-moment_text u)) in
    (ap Some (moment_text-injective t u first.last second.last parts.0), (fronts_same (decimal n) x (decimal n) y parts.1 refl).1)

pub reset_text_tells : (number : ℕ) (first second : ResetRow) → 10000000 ≤ number → number < 2 ^ 64 → IsRow first → IsRow second
    → reset_text first number ≡ reset_text second number
    → (first.id ≡ second.id) × (first.password ≡ second.password) × (first.last_login ≡ second.last_login) × (first.email ≡ second.email)
unfolding reset_text
reset_text_tells number first second large small f s same =
    let whole : decimal first.id ++ (first.password ++ (login_text first.last_login ++ (decimal number ++ first.email)))
    ≡ decimal second.id ++ (second.password ++ (login_text second.last_login ++ (decimal number ++ second.email))) = simp append_assoc at same in
    let ids = digits_end (decimal first.id) (decimal second.id) _ _ (digits_decimal own first.id f.id) (digits_decimal own second.id s.id)
    (begins_longer first.password _ f.password) (begins_longer second.password _ s.password) whole in
    let texts = text_ends first.password second.password _ _ f.password s.password ids.1 in
    let logins = login_ends number first.last_login second.last_login first.email second.email large small f.last_login s.last_login texts.1 in
    (decimal_injective first.id second.id f.id s.id ids.0, texts.0, logins.0, logins.1)
