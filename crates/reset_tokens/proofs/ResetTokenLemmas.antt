-- What a token is cut into.
use Rattle.std.proofs.Common.{◌↔◌, MatchOption, Option, None, Some, ◌≡◌, ◌≢◌, ℕ, zero, suc, ◌*◌, ◌/◌, ◌%◌, ◌^◌, ◌<◌, ◌≤◌, ◌==◌, ◌&&◌, not, true, nat_lt, List, [], ◌∷◌, length, get_or, map, refl, sym, ap, ◌∙◌, subst, inl, inr, arith, lit<}
use Rattle.std.specs.List.{Any, Contains, range_with_len}
use Rattle.std.specs.Str.{IsAscii}
use Rattle.std.proofs.lemmas.Bool.{agree_below_at, cases_lt}
use Rattle.std.proofs.lemmas.List.{ext_get_or, get_or_past}
use Rattle.std.proofs.lemmas.List.FromFn.{get_or-map-range_with_len}
use Rattle.std.proofs.lemmas.List.Elements.{All-contains}
use Rattle.crypto_text.specs.Hexadecimal.{hex_digits, hex_text}
use Rattle.crypto_text.specs.Numeral.{IsNumeral, base36_digits, numeral_of, value_of}
use Rattle.crypto_text.proofs.NumeralLemmas.{IsDigitTable-base36, base36_digits-no_dash, length-base36_digits}
use Rattle.crypto_text.proofs.NumeralWriting.{IsNumeral-numeral_of, length-numeral_of-le}
use Rattle.crypto_text.specs.Cut.{IsCutAtFirst}
use Rattle.crypto_text.proofs.CutLemmas.{Contains-joined, first_cut_once, lacks_by_index}
use Rattle.reset_tokens.specs.ResetToken.{HasNumber, HasShape, IsMade, ResetRow, dash, every_second, mac_of_text, reset_mac, reset_text}

-- ---- numerals have no dash

pub numeral_lacks : (digits : List ℕ) (n : ℕ) → IsNumeral base36_digits digits n → ¬ Contains digits dash
numeral_lacks digits n numeral found = base36_digits-no_dash (All-contains (Contains base36_digits) digits dash numeral.only_digits found)

-- ---- the MAC's digits

-- an ASCII byte other than the dash; so is 0, which stands for a byte past a text's end
record IsPlain (byte : ℕ) : Type 0 where
  ascii : byte < 128
  other : byte ≢ dash

plain_test : (byte : ℕ) → (nat_lt byte 128 && not (byte == dash)) ≡ true → IsPlain byte
plain_test byte passes = record { ascii = grind (arith, passes); other = λ e. grind (arith, passes) }

hex_digit : (k : ℕ) → IsPlain (get_or hex_digits k 0)
unfolding hex_digits
hex_digit k = elim (cases_lt k 16) [
  | inl below ↦ plain_test _ (agree_below_at (λ i. nat_lt (get_or hex_digits i 0) 128 && not (get_or hex_digits i 0 == dash)) (λ i. true) 16 k refl below)
  | inr past ↦ subst IsPlain (sym (get_or_past hex_digits k 0 past)) (record { ascii = omega arith; other = λ e. omega (arith, e) })
]

hex_plain : (bytes : List ℕ) (i : ℕ) → IsPlain (get_or (hex_text bytes) i 0)
unfolding hex_text
hex_plain [] i = record { ascii = omega arith; other = λ e. omega (arith, e) }
hex_plain (byte ∷ rest) zero = hex_digit (byte / 16)
hex_plain (byte ∷ rest) (suc zero) = hex_digit (byte % 16)
hex_plain (byte ∷ rest) (suc (suc i)) = hex_plain rest i

mac_plain : (bytes : List ℕ) (i : ℕ) → IsPlain (get_or (every_second (hex_text bytes)) i 0)
unfolding every_second
mac_plain bytes i = elim (cases_lt i 32) [
  | inl below ↦ subst IsPlain (sym (get_or-map-range_with_len (λ place. get_or (hex_text bytes) (2 * place) 0) 0 32 i i 0 below (omega arith))) (hex_plain bytes (2 * i))
  | inr past ↦ subst IsPlain (sym (get_or_past (map (λ place. get_or (hex_text bytes) (2 * place) 0) (range_with_len 0 32)) i 0 (omega arith)))
      (record { ascii = omega arith; other = λ e. omega (arith, e) })
]

-- what has every second digit at its places is that text
pub every_second-filled : (digits chosen : List ℕ) → length chosen ≡ 32 → ((k : ℕ) → k < 32 → get_or chosen k 0 ≡ get_or digits (2 * k) 0)
    → chosen ≡ every_second digits
unfolding every_second
every_second-filled digits chosen long each =
    ext_get_or 0 chosen (map (λ place. get_or digits (2 * place) 0) (range_with_len 0 32)) long
    (λ i lt. let within : i < 32 = omega (arith, lt, long) in each i within ∙ sym (get_or-map-range_with_len (λ place. get_or digits (2 * place) 0) 0 32 i i 0 within (omega arith)))

pub IsAscii-mac : (bytes : List ℕ) → IsAscii (every_second (hex_text bytes))
IsAscii-mac bytes i = (mac_plain bytes i).ascii

mac_lacks : (text key : List ℕ) → ¬ Contains (mac_of_text text key) dash
mac_lacks text key = lacks_by_index dash _ (λ i lt. (mac_plain _ i).other)

-- ---- numbers of tokens

pub HasNumber-same : (token : List ℕ) (m n : ℕ) → HasNumber token m → HasNumber token n → m ≡ n
HasNumber-same token m n first second =
    let parts = first_cut_once dash first.digits first.mark second.digits second.mark (sym first.whole ∙ second.whole) (numeral_lacks _ m first.numeral) (numeral_lacks _ n second.numeral) in
    sym first.numeral.value ∙ ap (value_of base36_digits) parts.0 ∙ second.numeral.value

-- what a cut token's number stands on
pub HasNumber-cut : (token digits mark : List ℕ) (n : ℕ) → IsCutAtFirst dash token digits mark → HasNumber token n
    → (¬ Contains mark dash) × (IsNumeral base36_digits digits n × (length digits ≤ 13) × (n < 2 ^ 64))
HasNumber-cut token digits mark n cut has =
    let parts = first_cut_once dash digits mark has.digits has.mark (sym cut.whole ∙ has.whole) cut.first (numeral_lacks _ n has.numeral) in (
      subst (λ (t : List ℕ). ¬ Contains t dash) (sym parts.1) has.one_dash,
      subst (λ (t : List ℕ). IsNumeral base36_digits t n × (length t ≤ 13) × (n < 2 ^ 64)) (sym parts.0) (has.numeral, has.short, has.fits),
    )

-- a cut token's number is what its first part is read as
pub HasNumber-read : (token digits mark : List ℕ) (r : Option ℕ) → IsCutAtFirst dash token digits mark → ¬ Contains mark dash
    → ((n : ℕ) → (r ≡ Some n) ↔ (IsNumeral base36_digits digits n × (length digits ≤ 13) × (n < 2 ^ 64)))
    → MatchOption r (¬ HasShape token) (HasNumber token)
HasNumber-read token digits mark None cut absent reads = λ shape.
    let none = (reads shape.0).1 (HasNumber-cut token digits mark shape.0 cut shape.1).1 in
    absurd (cc)
HasNumber-read token digits mark (Some n) cut absent reads =
    let numeral = (reads n).0 refl in
    record { digits = digits; mark = mark; whole = cut.whole; one_dash = absent; numeral = numeral.0; short = numeral.1; fits = numeral.2 }

pub HasShape-dash : (token : List ℕ) → HasShape token → Contains token dash
HasShape-dash token shape = subst (λ (t : List ℕ). Contains t dash) (sym shape.1.whole) (Contains-joined dash shape.1.digits shape.1.mark)

-- a made token has its number
pub IsMade-number : (token : List ℕ) (row : ResetRow) (n : ℕ) (keys : List (List ℕ)) → IsMade token row n keys → HasNumber token n
IsMade-number token row n keys made =
    let room : 2 ^ 64 < 36 ^ 13 = lit< tt in
    record {
      digits = numeral_of base36_digits n;
      mark = reset_mac row n made.key;
      whole = made.token_is;
      one_dash = mac_lacks _ made.key;
      numeral = IsNumeral-numeral_of base36_digits n IsDigitTable-base36;
      short = length-numeral_of-le base36_digits IsDigitTable-base36.many 12 n (rw length-base36_digits (omega (arith, made.fits)));
      fits = made.fits;
    }

-- a made token is cut into its number and its MAC
pub made_is_cut : (token : List ℕ) (row : ResetRow) (n : ℕ) (keys : List (List ℕ)) (digits mark text : List ℕ) → IsCutAtFirst dash token digits mark → text ≡ reset_text row n
    → IsMade token row n keys → (digits ≡ numeral_of base36_digits n) × Any (λ key. mark ≡ mac_of_text text key) keys
made_is_cut token row n keys digits mark text cut text_is made =
    let numeral = IsNumeral-numeral_of base36_digits n IsDigitTable-base36 in
    let parts = first_cut_once dash digits mark (numeral_of base36_digits n) (reset_mac row n made.key) (sym cut.whole ∙ made.token_is) cut.first (numeral_lacks _ n numeral) in
    (parts.0, (made.listed.0, made.key, made.listed.1, made.listed.2, parts.1 ∙ ap (λ (t : List ℕ). mac_of_text t made.key) (sym text_is)))

-- and what is cut into them is made
pub cut_is_made : (token : List ℕ) (row : ResetRow) (n : ℕ) (keys : List (List ℕ)) (digits mark text : List ℕ) → n < 2 ^ 64 → IsCutAtFirst dash token digits mark → text ≡ reset_text row n
    → digits ≡ numeral_of base36_digits n → Any (λ key. mark ≡ mac_of_text text key) keys → IsMade token row n keys
cut_is_made token row n keys digits mark text small cut text_is digits_are fits = record {
  key = fits.1;
  listed = (fits.0, fits.2, fits.3);
  fits = small;
  token_is = cut.whole ∙ rw (digits_are, fits.4, text_is) refl;
}

pub uncut_unmade : (token : List ℕ) (row : ResetRow) (n : ℕ) (keys : List (List ℕ)) → ¬ Contains token dash → ¬ IsMade token row n keys
uncut_unmade token row n keys none made = none (HasShape-dash token (n, IsMade-number token row n keys made))

-- what makes a token with a number makes it at that number
pub IsMade-same : (token : List ℕ) (row : ResetRow) (m n : ℕ) (keys : List (List ℕ)) → HasNumber token m → IsMade token row n keys → (m ≡ n) × IsMade token row m keys
IsMade-same token row m n keys has made =
    let same = HasNumber-same token m n has (IsMade-number token row n keys made) in
    (same, subst (λ (k : ℕ). IsMade token row k keys) (sym same) made)
