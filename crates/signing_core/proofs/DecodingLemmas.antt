-- Each part of the functions that take a signed text apart says what its part of the definitions says.
use Rattle.std.proofs.Common.{◌≡◌, ℕ, zero, suc, ◌^◌, ◌<◌, ◌==◌, ◌&&◌, Bool, true, false, List, [], ◌∷◌, ◌++◌, All, Any, Contains, MatchOption, None, Option, Some, Ok, arith, bytes_eq, cond, get_or, inl, inr, length, nat_lt, option_and_then, option_map, refl, sym, ap, ◌∙◌, subst}
use Rattle.std.proofs.lemmas.Bool.{and_parts, cases_lt, eq-eqb, eqb-false, eqb-true, lt-ltb, ltb-true}
use Rattle.std.proofs.lemmas.List.{get_or_default, get_or_past}
use Rattle.std.proofs.lemmas.List.Folds.{Any-from_list_any, list_any-from_Any}
use Rattle.std.proofs.lemmas.List.Sums.{AllPass-from_list_all, list_all-from_AllPass}
use Rattle.std.proofs.lemmas.Option.{cond_some, option_and_then_some}
use Rattle.std.proofs.lemmas.Slice.Eq.{bytes_eq-Decides}
use Rattle.std.specs.List.{list_all, list_any}
use Rattle.std.specs.Result.{result_ok}
use Rattle.base64.specs.Engines.{url_safe_no_pad}
use Rattle.base64.specs.GeneralPurpose.{decode_of}
use Rattle.crypto_text.specs.Cut.{IsCutAtLast}
use Rattle.crypto_text.specs.Numeral.{IsNumeral, base62_digits, value_of}
use Rattle.crypto_text.specs.Rfc4648.{IsBytes, base64url}
use Rattle.crypto_text.proofs.CutLemmas.{Contains-joined, last_cut_once}
use Rattle.crypto_text.proofs.Rfc4648Lemmas.{decode_of-base64url}
use Rattle.signing_core.specs.Decoding.{bytes_of, is_signature_of, parts_after, parts_at_last_colon, signed_part, signed_value, time_of, timed_parts}
use Rattle.signing_core.specs.Signature.{IsSigned, IsTimed, IsTimestamped, separator, signature_of}
use Rattle.signing_core.proofs.SignatureLemmas.{cut_is_signed, numeral_has_no_colon, signed_has_colon, signed_is_cut}

-- ---- the last colon

abbrev IsCutBy : List ℕ → Option (List ℕ × List ℕ) → Type 0
IsCutBy text o = MatchOption o (¬ Contains text separator) (λ parts. IsCutAtLast separator text parts.0 parts.1)

not_in_more : (c : ℕ) (rest : List ℕ) → ¬ (c ≡ separator) → ¬ Contains rest separator → (k : ℕ) → k < length (c ∷ rest) → get_or (c ∷ rest) k separator ≡ separator → ⊥
not_in_more c rest other none zero lt is = other is
not_in_more c rest other none (suc k) lt is = none (k, omega arith, is)

cut_here : (b : Bool) (c : ℕ) (rest : List ℕ) → (c == separator) ≡ b → ¬ Contains rest separator → IsCutBy (c ∷ rest) (cond b (Some ([], rest)) None)
cut_here true c rest is none = record { whole = ap (λ (x : ℕ). x ∷ rest) (eqb-true c separator is); last = none }
cut_here false c rest is none = λ found. not_in_more c rest (eqb-false c separator is) none found.0 found.1 found.2

cut_after : (c : ℕ) (rest : List ℕ) (o : Option (List ℕ × List ℕ)) → IsCutBy rest o → IsCutBy (c ∷ rest) (parts_after c rest o)
cut_after c rest None none = cut_here (c == separator) c rest refl none
cut_after c rest (Some parts) cut = record { whole = ap (λ t. c ∷ t) cut.whole; last = cut.last }

cut_by : (text : List ℕ) → IsCutBy text (parts_at_last_colon text)
cut_by [] = λ found. omega (arith, found.1)
cut_by (c ∷ rest) = cut_after c rest (parts_at_last_colon rest) (cut_by rest)

cut_colon : (text front back : List ℕ) → IsCutAtLast separator text front back → Contains text separator
cut_colon text front back cut = subst (λ t. Contains t separator) (sym cut.whole) (Contains-joined separator front back)

cut_is_at : (text front back : List ℕ) (o : Option (List ℕ × List ℕ)) → IsCutBy text o → IsCutAtLast separator text front back → o ≡ Some (front, back)
cut_is_at text front back None none cut = absurd (none (cut_colon text front back cut))
cut_is_at text front back (Some parts) found cut =
    let same = last_cut_once separator parts.0 parts.1 front back (sym found.whole ∙ cut.whole) found.last cut.last in
    λ i. Some (same.0 i, same.1 i)

cut_is : (text front back : List ℕ) → IsCutAtLast separator text front back → parts_at_last_colon text ≡ Some (front, back)
cut_is text front back = cut_is_at text front back (parts_at_last_colon text) (cut_by text)

cut_from_at : (text : List ℕ) (parts : List ℕ × List ℕ) (o : Option (List ℕ × List ℕ)) → IsCutBy text o → o ≡ Some parts → IsCutAtLast separator text parts.0 parts.1
cut_from_at text parts o cut is = rw is at cut

cut_from : (text : List ℕ) (parts : List ℕ × List ℕ) → parts_at_last_colon text ≡ Some parts → IsCutAtLast separator text parts.0 parts.1
cut_from text parts = cut_from_at text parts (parts_at_last_colon text) (cut_by text)

-- ---- signatures

signature_fits : (salt text signature : List ℕ) (keys : List (List ℕ)) → is_signature_of salt keys text signature ≡ true → Any (λ key. signature ≡ signature_of text [] salt key) keys
signature_fits salt text signature keys is =
    let found = Any-from_list_any (λ key. bytes_eq signature (signature_of text [] salt key)) keys is in
    (found.0, found.1, found.2, found.3, (bytes_eq-Decides signature (signature_of text [] salt found.1)).0 found.4)

fits_signature : (salt text signature : List ℕ) (keys : List (List ℕ)) → Any (λ key. signature ≡ signature_of text [] salt key) keys → is_signature_of salt keys text signature ≡ true
fits_signature salt text signature keys fits =
    list_any-from_Any (λ key. bytes_eq signature (signature_of text [] salt key)) keys
    (fits.0, fits.1, fits.2, fits.3, (bytes_eq-Decides signature (signature_of text [] salt fits.1)).1 fits.4)

pub signed_part-sound : (text salt rest : List ℕ) (keys : List (List ℕ)) → signed_part text salt keys ≡ Some rest → IsSigned text rest [] salt keys
unfolding signed_part
signed_part-sound text salt rest keys is =
    option_and_then_some (λ (parts : List ℕ × List ℕ). cond (is_signature_of salt keys parts.0 parts.1) (Some parts.0) None) (parts_at_last_colon text) rest is
    (λ parts cut found.
    let fits = cond_some (is_signature_of salt keys parts.0 parts.1) parts.0 rest found in
    subst (λ r. IsSigned text r [] salt keys) fits.1
    (cut_is_signed text parts.0 parts.1 [] salt keys (cut_from text parts cut) (signature_fits salt parts.0 parts.1 keys fits.0)))

signed_at : (text salt rest : List ℕ) (keys : List (List ℕ)) (o : Option (List ℕ × List ℕ)) → IsCutBy text o → IsSigned text rest [] salt keys
    → option_and_then (λ (parts : List ℕ × List ℕ). cond (is_signature_of salt keys parts.0 parts.1) (Some parts.0) None) o ≡ Some rest
signed_at text salt rest keys None none signed = absurd (none (signed_has_colon text rest [] salt keys signed))
signed_at text salt rest keys (Some parts) cut signed =
    let both = signed_is_cut text parts.0 parts.1 rest [] salt keys cut signed in
    rw (fits_signature salt parts.0 parts.1 keys both.1) (ap (λ (r : List ℕ). Some r) both.0)

pub signed_part-complete : (text salt rest : List ℕ) (keys : List (List ℕ)) → IsSigned text rest [] salt keys → signed_part text salt keys ≡ Some rest
unfolding signed_part
signed_part-complete text salt rest keys = signed_at text salt rest keys (parts_at_last_colon text) (cut_by text)

-- ---- the digits of a time

digit_found : (c : ℕ) → list_any (λ digit. digit == c) base62_digits ≡ true → Contains base62_digits c
digit_found c is =
    let found = Any-from_list_any (λ digit. digit == c) base62_digits is in
    (found.0, found.2, subst (λ (x : ℕ). get_or base62_digits found.0 x ≡ x) (eqb-true found.1 c found.4) found.3)

found_digit : (c : ℕ) → Contains base62_digits c → list_any (λ digit. digit == c) base62_digits ≡ true
found_digit c found = list_any-from_Any (λ digit. digit == c) base62_digits (found.0, c, found.1, found.2, eq-eqb c c refl)

abbrev are_digits : List ℕ → Bool
are_digits digits = list_all (λ c. list_any (λ digit. digit == c) base62_digits) digits

time_of-sound : (digits : List ℕ) (time : ℕ) → time_of digits ≡ Some time → IsNumeral base62_digits digits time × (time < 2 ^ 64)
unfolding time_of
time_of-sound digits time is =
    let value : ℕ = value_of base62_digits digits in
    let found = cond_some (nat_lt 0 (length digits) && are_digits digits && nat_lt value (2 ^ 64)) value time is in
    let both = and_parts (nat_lt 0 (length digits) && are_digits digits) (nat_lt value (2 ^ 64)) found.0 in
    let form = and_parts (nat_lt 0 (length digits)) (are_digits digits) both.0 in
    let all = AllPass-from_list_all (λ c. list_any (λ digit. digit == c) base62_digits) digits form.1 in (
      record { nonempty = ltb-true 0 (length digits) form.0; only_digits = λ k d lt. digit_found (get_or digits k d) (all k d lt); value = found.1 },
      subst (λ (t : ℕ). t < 2 ^ 64) found.1 (ltb-true value (2 ^ 64) both.1),
    )

time_of-complete : (digits : List ℕ) (time : ℕ) → IsNumeral base62_digits digits time → time < 2 ^ 64 → time_of digits ≡ Some time
unfolding time_of
time_of-complete digits time numeral fits =
    let some : nat_lt 0 (length digits) ≡ true = lt-ltb 0 (length digits) numeral.nonempty in
    let all : are_digits digits ≡ true =
    list_all-from_AllPass (λ c. list_any (λ digit. digit == c) base62_digits) digits (λ k d lt. found_digit (get_or digits k d) (numeral.only_digits k d lt)) in
    let small : nat_lt (value_of base62_digits digits) (2 ^ 64) ≡ true = lt-ltb _ (2 ^ 64) (subst (λ (t : ℕ). t < 2 ^ 64) (sym numeral.value) fits) in
    rw (some, all, small) (ap (λ (t : ℕ). Some t) numeral.value)

-- ---- a value and its moment

timed_parts-sound : (rest value : List ℕ) (time : ℕ) → timed_parts rest ≡ Some (value, time) → IsTimed rest value time
unfolding timed_parts
timed_parts-sound rest value time is =
    option_and_then_some (λ (parts : List ℕ × List ℕ). option_map {U = List ℕ × ℕ} (λ (t : ℕ). (parts.0, t)) (time_of parts.1)) (parts_at_last_colon rest) (value, time) is
    (λ parts cut found. timed_at parts (cut_from rest parts cut) (time_of parts.1) refl found)
  where
    timed_at : (parts : List ℕ × List ℕ) → IsCutAtLast separator rest parts.0 parts.1 → (o : Option ℕ) → time_of parts.1 ≡ o → option_map {U = List ℕ × ℕ} (λ (t : ℕ). (parts.0, t)) o ≡ Some (value, time) → IsTimed rest value time
    timed_at parts cut None is found = absurd (cc found)
    timed_at parts cut (Some t) is found =
        let whole : (parts.0, t) ≡ (value, time) = cc found in
        let front : parts.0 ≡ value = ap (λ (p : List ℕ × ℕ). p.0) whole in
        let same : t ≡ time = ap (λ (p : List ℕ × ℕ). p.1) whole in
        let numeral = time_of-sound parts.1 time (is ∙ ap (λ (n : ℕ). Some n) same) in
        record { digits = parts.1; rest_is = cut.whole ∙ ap (λ f. f ++ separator ∷ parts.1) front; numeral = numeral.0; fits = numeral.1 }

timed_parts-complete : (rest value : List ℕ) (time : ℕ) → IsTimed rest value time → timed_parts rest ≡ Some (value, time)
unfolding timed_parts
timed_parts-complete rest value time timed =
    let cut : parts_at_last_colon rest ≡ Some (value, timed.digits) =
    cut_is rest value timed.digits (record { whole = timed.rest_is; last = numeral_has_no_colon timed.digits time timed.numeral }) in
    rw (cut, time_of-complete timed.digits time timed.numeral timed.fits) refl

pub signed_value-sound : (text salt value : List ℕ) (time : ℕ) (keys : List (List ℕ)) → signed_value text salt keys ≡ Some (value, time) → IsTimestamped text value time [] salt keys
unfolding signed_value
signed_value-sound text salt value time keys is =
    option_and_then_some timed_parts (signed_part text salt keys) (value, time) is
    (λ rest signed timed. record { rest = rest; signed = signed_part-sound text salt rest keys signed; timed = timed_parts-sound rest value time timed })

pub signed_value-complete : (text salt value : List ℕ) (time : ℕ) (keys : List (List ℕ)) → IsTimestamped text value time [] salt keys → signed_value text salt keys ≡ Some (value, time)
unfolding signed_value
signed_value-complete text salt value time keys stamped =
    rw (signed_part-complete text salt stamped.rest keys stamped.signed) (timed_parts-complete stamped.rest value time stamped.timed)

-- ---- what was encoded

pub bytes_of-sound : (text bytes : List ℕ) → bytes_of text ≡ Some bytes → IsBytes bytes × (text ≡ base64url bytes)
unfolding bytes_of
bytes_of-sound text bytes is =
    option_and_then_some (λ (b : List ℕ). cond (list_all (λ byte. nat_lt byte 256) b && bytes_eq text (base64url b)) (Some b) None) (result_ok (decode_of url_safe_no_pad text)) bytes is
    (λ b decodes found.
    let both = cond_some (list_all (λ byte. nat_lt byte 256) b && bytes_eq text (base64url b)) b bytes found in
    let parts = and_parts (list_all (λ byte. nat_lt byte 256) b) (bytes_eq text (base64url b)) both.0 in
    subst (λ (bs : List ℕ). IsBytes bs × (text ≡ base64url bs)) both.1
    (below_256 b (AllPass-from_list_all (λ byte. nat_lt byte 256) b parts.0), (bytes_eq-Decides text (base64url b)).0 parts.1))
  where
    below_256 : (b : List ℕ) → All (λ byte. nat_lt byte 256 ≡ true) b → IsBytes b
    below_256 b all i = elim (cases_lt i (length b)) [
      | inl within ↦ ltb-true (get_or b i 0) 256 (all i 0 within)
      | inr past ↦ let none : get_or b i 0 ≡ 0 = get_or_past b i 0 past in omega (arith, none)
    ]

pub bytes_of-complete : (text bytes : List ℕ) → IsBytes bytes → text ≡ base64url bytes → bytes_of text ≡ Some bytes
unfolding bytes_of
bytes_of-complete text bytes are encoded =
    let decodes : decode_of url_safe_no_pad text ≡ Ok bytes = ap (decode_of url_safe_no_pad) encoded ∙ decode_of-base64url bytes are in
    let all : list_all (λ byte. nat_lt byte 256) bytes ≡ true =
    list_all-from_AllPass (λ byte. nat_lt byte 256) bytes (λ k d lt. lt-ltb (get_or bytes k d) 256 (rw (get_or_default bytes k d 0 lt) (are k))) in
    let same : bytes_eq text (base64url bytes) ≡ true = (bytes_eq-Decides text (base64url bytes)).1 encoded in
    ap (λ r. option_and_then (λ (b : List ℕ). cond (list_all (λ byte. nat_lt byte 256) b && bytes_eq text (base64url b)) (Some b) None) (result_ok r)) decodes
    ∙ rw (all, same) refl
