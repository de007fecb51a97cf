-- What a signed text tells.
use Rattle.std.proofs.Common.{◌≡◌, ℕ, ◌<◌, ◌^◌, List, ◌∷◌, ◌++◌, length, get_or, map, ◌==◌, false, true, refl, sym, ◌∙◌, ap, subst, inl, inr, arith, Option, Some, None}
use Rattle.std.specs.Option.{IsSomeAnd}
use Rattle.std.specs.List.{Any, Contains, range_with_len}
use Rattle.std.proofs.lemmas.Bool.{agree_below, agree_below_at, cases_lt, eqb-false}
use Rattle.std.proofs.lemmas.List.{get_or-map, get_or_past, length-map}
use Rattle.std.proofs.lemmas.List.Elements.{All-contains}
use Rattle.crypto_text.specs.Numeral.{IsNumeral, base62_digits, numeral_of, value_of}
use Rattle.crypto_text.proofs.NumeralLemmas.{IsDigitTable-base62}
use Rattle.crypto_text.proofs.NumeralWriting.{IsNumeral-numeral_of}
use Rattle.crypto_text.specs.Rfc4648.{base64url, sixes_of, six_at, url_safe_letters}
use Rattle.crypto_text.specs.Cut.{IsCutAtLast}
use Rattle.signing_core.specs.Signature.{IsAllowed, IsSigned, IsTimed, IsTimestamped, separator, signature_of, signed_text, timed_value}
use Rattle.signing_core.specs.SignedJson.{IsCompressed}
use Rattle.crypto_text.proofs.CutLemmas.{Contains-joined, last_cut_once}

-- ---- signatures and numerals have no colon

-- a character that isn't among the 64 is none of them; behind them all stands 0
letter_is_none : (mark m : ℕ) → agree_below (λ k. get_or url_safe_letters k 0 == mark) (λ k. false) 64 ≡ true → 0 < mark → get_or url_safe_letters m 0 ≡ mark → ⊥
unfolding url_safe_letters
letter_is_none mark m absent some same = elim (cases_lt m 64) [
  | inl below ↦ eqb-false _ _ (agree_below_at (λ k. get_or url_safe_letters k 0 == mark) (λ k. false) 64 m absent below) same
  | inr past ↦ let none : get_or url_safe_letters m 0 ≡ 0 = get_or_past url_safe_letters m 0 past in omega arith
]

letter_is_no_colon : (m : ℕ) → get_or url_safe_letters m 0 ≡ separator → ⊥
unfolding url_safe_letters
letter_is_no_colon m = letter_is_none separator m refl (omega arith)

letter_is_no_dot : (m : ℕ) → get_or url_safe_letters m 0 ≡ 46 → ⊥
unfolding url_safe_letters
letter_is_no_dot m = letter_is_none 46 m refl (omega arith)

base64url_has_no_colon : (bytes : List ℕ) → ¬ Contains (base64url bytes) separator
unfolding base64url
base64url_has_no_colon bytes found =
    let places = range_with_len 0 (sixes_of (length bytes)) in
    let letter = λ (i : ℕ). get_or url_safe_letters (six_at bytes i) 0 in
    let within : found.0 < length places = omega (arith, found.1, length-map places letter) in
    letter_is_no_colon _ (sym (get_or-map letter places found.0 0 separator within) ∙ found.2)

-- what base64url writes is no mark of compressed JSON
pub base64url_is_no_mark : (bytes : List ℕ) → ¬ IsCompressed (base64url bytes)
unfolding base64url
base64url_is_no_mark bytes dot =
    let places = range_with_len 0 (sixes_of (length bytes)) in
    let letter = λ (i : ℕ). get_or url_safe_letters (six_at bytes i) 0 in
    elim (cases_lt 0 (length places)) [
      | inl some ↦ letter_is_no_dot _ (sym (get_or-map letter places 0 0 0 some) ∙ dot)
      | inr none ↦ let nothing : get_or (map letter places) 0 0 ≡ 0 = get_or_past (map letter places) 0 0 (omega (arith, none, length-map places letter)) in omega arith
    ]

pub signature_has_no_colon : (value prefix salt key : List ℕ) → ¬ Contains (signature_of value prefix salt key) separator
unfolding signature_of
signature_has_no_colon value prefix salt key = base64url_has_no_colon _

colon_is_no_digit : Contains base62_digits separator → ⊥
unfolding base62_digits
colon_is_no_digit found = eqb-false _ _ (agree_below_at (λ k. get_or base62_digits k separator == separator) (λ k. false) 62 found.0 refl found.1) found.2

pub numeral_has_no_colon : (digits : List ℕ) (n : ℕ) → IsNumeral base62_digits digits n → ¬ Contains digits separator
numeral_has_no_colon digits n numeral found = colon_is_no_digit (All-contains (Contains base62_digits) digits separator numeral.only_digits found)

-- ---- signed texts

pub signed_text_tells_value : (text first second prefix salt other_prefix other_salt : List ℕ) (keys other_keys : List (List ℕ))
    → IsSigned text first prefix salt keys → IsSigned text second other_prefix other_salt other_keys → first ≡ second
signed_text_tells_value text first second prefix salt other_prefix other_salt keys other_keys a b =
    (last_cut_once separator _ _ _ _ (sym a.text_is ∙ b.text_is) (signature_has_no_colon _ _ _ _) (signature_has_no_colon _ _ _ _)).0

-- a signed text has a colon
pub signed_has_colon : (text value prefix salt : List ℕ) (keys : List (List ℕ)) → IsSigned text value prefix salt keys → Contains text separator
signed_has_colon text value prefix salt keys signed = subst (λ l. Contains l separator) (sym signed.text_is) (Contains-joined separator value _)

-- what a signed text is cut into
pub signed_is_cut : (text front back value prefix salt : List ℕ) (keys : List (List ℕ)) → IsCutAtLast separator text front back → IsSigned text value prefix salt keys
    → (front ≡ value) × Any (λ key. back ≡ signature_of front prefix salt key) keys
signed_is_cut text front back value prefix salt keys cut signed =
    let parts = last_cut_once separator _ _ _ _ (sym cut.whole ∙ signed.text_is) cut.last (signature_has_no_colon _ _ _ _) in
    let same : front ≡ value = parts.0 in
    let listed_again : get_or keys signed.listed.0 signed.key ≡ signed.key = signed.listed.2 in
    (same, (signed.listed.0, signed.key, signed.listed.1, listed_again, parts.1 ∙ ap (λ v. signature_of v prefix salt signed.key) (sym same)))

-- a text that was cut before a signature is signed
pub cut_is_signed : (text front back prefix salt : List ℕ) (keys : List (List ℕ)) → IsCutAtLast separator text front back
    → Any (λ key. back ≡ signature_of front prefix salt key) keys → IsSigned text front prefix salt keys
cut_is_signed text front back prefix salt keys cut fits =
    record { key = fits.1; listed = (fits.0, fits.2, fits.3); text_is = cut.whole ∙ ap (λ l. front ++ separator ∷ l) fits.4 }

-- ---- signed texts with a time

-- what was signed with a time has a colon
pub timed_has_colon : (rest value : List ℕ) (time : ℕ) → IsTimed rest value time → Contains rest separator
timed_has_colon rest value time timed = subst (λ l. Contains l separator) (sym timed.rest_is) (Contains-joined separator value timed.digits)

-- behind its last colon stands the time
pub timed_is_cut : (rest front back value : List ℕ) (time : ℕ) → IsCutAtLast separator rest front back → IsTimed rest value time → IsNumeral base62_digits back time × (time < 2 ^ 64)
timed_is_cut rest front back value time cut timed =
    let parts = last_cut_once separator _ _ _ _ (sym cut.whole ∙ timed.rest_is) cut.last (numeral_has_no_colon _ _ timed.numeral) in
    (subst (λ digits. IsNumeral base62_digits digits time) (sym parts.1) timed.numeral, timed.fits)

pub timed_tells_value : (rest first second : List ℕ) (first_time second_time : ℕ) → IsTimed rest first first_time → IsTimed rest second second_time → (first ≡ second) × (first_time ≡ second_time)
timed_tells_value rest first second first_time second_time a b =
    let parts = last_cut_once separator _ _ _ _ (sym a.rest_is ∙ b.rest_is) (numeral_has_no_colon _ _ a.numeral) (numeral_has_no_colon _ _ b.numeral) in
    (parts.0, sym a.numeral.value ∙ ap (value_of base62_digits) parts.1 ∙ b.numeral.value)

pub timestamped_text_tells_value : (text first second prefix salt other_prefix other_salt : List ℕ) (first_time second_time : ℕ) (keys other_keys : List (List ℕ))
    → IsTimestamped text first first_time prefix salt keys → IsTimestamped text second second_time other_prefix other_salt other_keys
    → (first ≡ second) × (first_time ≡ second_time)
timestamped_text_tells_value text first second prefix salt other_prefix other_salt first_time second_time keys other_keys a b =
    let same : a.rest ≡ b.rest = signed_text_tells_value text a.rest b.rest prefix salt other_prefix other_salt keys other_keys a.signed b.signed in
    timed_tells_value b.rest first second first_time second_time (subst (λ rest. IsTimed rest first first_time) same a.timed) b.timed

-- what was signed with a time is what was signed
pub timestamped_is_timed : (text rest value prefix salt : List ℕ) (time : ℕ) (keys : List (List ℕ)) → IsSigned text rest prefix salt keys → IsTimestamped text value time prefix salt keys
    → IsTimed rest value time
timestamped_is_timed text rest value prefix salt time keys signed timestamped =
    subst (λ r. IsTimed r value time) (signed_text_tells_value text timestamped.rest rest prefix salt prefix salt keys keys timestamped.signed signed) timestamped.timed

-- no age is both allowed and beyond the limit
pub allowed_not_beyond : (max_age : Option ℕ) (age : ℕ) → IsAllowed max_age age → IsSomeAnd max_age (λ most. most < age) → ⊥
allowed_not_beyond None age allowed beyond = absurd beyond
allowed_not_beyond (Some most) age allowed beyond = omega arith

-- a signed text whose signed part is a value and a moment
pub timed_is_timestamped : (text rest value prefix salt : List ℕ) (time : ℕ) (keys : List (List ℕ)) → IsSigned text rest prefix salt keys → IsTimed rest value time
    → IsTimestamped text value time prefix salt keys
timed_is_timestamped text rest value prefix salt time keys signed timed = record { rest = rest; signed = signed; timed = timed }

pub timestamped_at : (text first second prefix salt : List ℕ) (first_time second_time : ℕ) (keys : List (List ℕ)) → first ≡ second → first_time ≡ second_time
    → IsTimestamped text first first_time prefix salt keys → IsTimestamped text second second_time prefix salt keys
timestamped_at text first second prefix salt first_time second_time keys same same_time timestamped =
    subst (λ v. IsTimestamped text v second_time prefix salt keys) same (subst (λ t. IsTimestamped text first t prefix salt keys) same_time timestamped)

-- ---- what was written

pub timestamped_while_listed : (value prefix salt key : List ℕ) (time : ℕ) (keys : List (List ℕ)) → time < 2 ^ 64 → Contains keys key
    → IsTimestamped (signed_text (timed_value value time) prefix salt key) value time prefix salt keys
timestamped_while_listed value prefix salt key time keys fits listed = record {
  rest = timed_value value time;
  signed = record { key = key; listed = listed; text_is = refl };
  timed = record { digits = numeral_of base62_digits time; rest_is = refl; numeral = IsNumeral-numeral_of base62_digits time IsDigitTable-base62; fits = fits };
}
