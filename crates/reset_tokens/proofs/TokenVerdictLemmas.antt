-- What a token is at a moment: the function, and the relations.
use Rattle.std.proofs.Common.{◌≡◌, ◌↔◌, ◌⊎◌, ℕ, ◌^◌, ◌<◌, ◌≤◌, ◌==◌, ◌&&◌, not, nat_le, if◌then◌else◌, Bool, true, false, bytes_eq, List, length, get_or, Option, Some, None, MatchOption, inl, inr, refl, sym, ap, ◌∙◌, subst, arith}
use Rattle.std.specs.Bool.{Decides}
use Rattle.std.specs.List.{Contains, after_first, before_first, list_all, list_any, position_or_len}
use Rattle.std.proofs.lemmas.Bool.{cases_lt, eq-eqb, eqb-true, false≢true}
use Rattle.std.proofs.lemmas.Bool.Decides.{Decides-and, Decides-by_and, Decides-by_or, Decides-eqb, Decides-ltb, not_from_Decides}
use Rattle.std.proofs.lemmas.List.{get_or-take, length-take-le}
use Rattle.std.proofs.lemmas.List.Elements.{Decides-contains}
use Rattle.std.proofs.lemmas.List.Folds.{Any-from_list_any, list_any-from_Any}
use Rattle.std.proofs.lemmas.List.Sums.{fails_before_first, passes_at_first, split_at_first}
use Rattle.std.proofs.lemmas.Slice.Eq.{bytes_eq-Decides}
use Rattle.crypto_text.specs.Cut.{IsCutAtFirst}
use Rattle.crypto_text.specs.Numeral.{AreDigits, IsNumeral, base36_digits, value_of}
use Rattle.crypto_text.proofs.CutLemmas.{lacks_by_index}
use Rattle.reset_tokens.specs.declared.reset_token.ResetVerdict.{ResetVerdict}
use Rattle.reset_tokens.specs.declared.reset_token.ResetVerdict.TheVariants.{Expired, Mismatch, Shape, Valid}
use Rattle.reset_tokens.specs.Laws.{IsExactVerdict, VerdictIsExact}
use Rattle.reset_tokens.specs.ResetToken.{HasNumber, HasShape, IsMade, ResetRow, age_at, dash, token_text}
use Rattle.reset_tokens.specs.TokenVerdict.{base36_of, is_base36, is_dash, is_made, number_in, token_verdict, verdict_by_age}
use Rattle.reset_tokens.proofs.ResetTokenLemmas.{HasNumber-cut, HasNumber-read, HasNumber-same, HasShape-dash, IsMade-number, IsMade-same}

-- a test is true or false
either : (b : Bool) → (b ≡ true) ⊎ (b ≡ false)
either b = elim b as (λ v. (v ≡ true) ⊎ (v ≡ false)) [ true ↦ inl refl | false ↦ inr refl ]

-- ---- the number of a token

holds_byte : (byte : ℕ) (text : List ℕ) → Decides (list_any (λ b. b == byte) text) (Contains text byte)
holds_byte byte text = Decides-contains text byte _ (Decides-by_or (λ b. b == byte) (λ b. b ≡ byte) (list_any (λ b. b == byte)) (λ b. Decides-eqb b byte) refl (λ _ _. refl) text)

are_digits : (text : List ℕ) → Decides (list_all is_base36 text) (AreDigits base36_digits text)
are_digits text = Decides-by_and is_base36 (Contains base36_digits) (list_all is_base36) (λ byte. holds_byte byte base36_digits) refl (λ _ _. refl) text

Some-if : {P : Type 0} (test : Bool) (value n : ℕ) → Decides test P → ((if test then Some value else None) ≡ Some n) ↔ (P × (value ≡ n))
Some-if true value n decides = (λ is. (decides.0 refl, cc), λ holds. ap (λ (k : ℕ). Some k) holds.1)
Some-if false value n decides = (λ is. absurd (cc), λ holds. absurd (false≢true (decides.1 holds.0)))

base36_of-reads : (text : List ℕ) (n : ℕ) → (base36_of text ≡ Some n) ↔ (IsNumeral base36_digits text n × (length text ≤ 13) × (n < 2 ^ 64))
unfolding base36_of
base36_of-reads text n =
    let value = value_of base36_digits text in
    let long = Decides-and _ _ (Decides-ltb 0 (length text)) (Decides-leb (length text) 13) in
    let digits = Decides-and _ _ long (are_digits text) in
    let reads = Some-if _ value n (Decides-and _ _ digits (Decides-ltb value (2 ^ 64))) in (
      λ is.
          let holds = reads.0 is in (
            record { nonempty = holds.0.0.0.0; only_digits = holds.0.0.1; value = holds.1 },
            holds.0.0.0.1,
            subst (λ (k : ℕ). k < 2 ^ 64) holds.1 holds.0.1,
          ),
      λ numeral.
          let small = subst (λ (k : ℕ). k < 2 ^ 64) (sym numeral.0.value) numeral.2 in
          reads.1 ((((numeral.0.nonempty, numeral.1), numeral.0.only_digits), small), numeral.0.value),
    )
  where
    Decides-leb : (a b : ℕ) → Decides (nat_le a b) (a ≤ b)
    Decides-leb a b = (λ e. grind (arith, e), λ le. grind (arith, le))

-- a text with a dash is cut at the first one
dash_within : (token : List ℕ) → Contains token dash → position_or_len is_dash token < length token
dash_within token found = elim (cases_lt (position_or_len is_dash token) (length token)) [
  | inl within ↦ within
  | inr past ↦
      let other = fails_before_first is_dash token found.0 dash (omega (arith, found.1, past)) in
      absurd (false≢true (sym other ∙ eq-eqb _ dash found.2))
]

cut_at_dash : (token : List ℕ) → Contains token dash → IsCutAtFirst dash token (before_first is_dash token) (after_first is_dash token)
cut_at_dash token found =
    let within = dash_within token found in
    let mark = eqb-true (get_or token (position_or_len is_dash token) dash) dash (passes_at_first is_dash token dash within) in
    record {
      whole = rw mark at (split_at_first is_dash token dash within);
      first = lacks_by_index dash _ (λ i lt is.
          let long = length-take-le (position_or_len is_dash token) token (omega (arith, within)) in
          let below : i < position_or_len is_dash token = omega (arith, lt, long) in
          let other = fails_before_first is_dash token i 0 below in
          let here = sym (get_or-take (position_or_len is_dash token) token i 0 below) ∙ is in
          absurd (false≢true (sym other ∙ eq-eqb _ dash here)));
    }

number_by_tests : (token : List ℕ) (some more : Bool) → list_any is_dash token ≡ some → list_any is_dash (after_first is_dash token) ≡ more
    → MatchOption (if some && not more then base36_of (before_first is_dash token) else None) (¬ HasShape token) (HasNumber token)
number_by_tests token false more some_is more_is = λ shape. not_from_Decides _ (holds_byte dash token) some_is (HasShape-dash token shape)
number_by_tests token true true some_is more_is = λ shape.
    let cut = cut_at_dash token ((holds_byte dash token).0 some_is) in
    (HasNumber-cut token _ _ shape.0 cut shape.1).0 ((holds_byte dash _).0 more_is)
number_by_tests token true false some_is more_is =
    HasNumber-read token _ _ (base36_of (before_first is_dash token)) (cut_at_dash token ((holds_byte dash token).0 some_is))
    (not_from_Decides _ (holds_byte dash _) more_is) (base36_of-reads (before_first is_dash token))

number_in-tells : (token : List ℕ) → MatchOption (number_in token) (¬ HasShape token) (HasNumber token)
number_in-tells token = number_by_tests token _ _ refl refl

none_by : (token : List ℕ) (r : Option ℕ) → MatchOption r (¬ HasShape token) (HasNumber token) → ¬ HasShape token → r ≡ None
none_by token None tells none = refl
none_by token (Some n) has none = absurd (none (n, has))

some_by : (token : List ℕ) (n : ℕ) (r : Option ℕ) → MatchOption r (¬ HasShape token) (HasNumber token) → HasNumber token n → r ≡ Some n
some_by token n None none has = absurd (none (n, has))
some_by token n (Some m) first has = ap (λ (k : ℕ). Some k) (HasNumber-same token m n first has)

-- ---- what makes a token

is_made-Decides : (row : ResetRow) (keys : List (List ℕ)) (token : List ℕ) (n : ℕ) → n < 2 ^ 64 → Decides (is_made row keys token n) (IsMade token row n keys)
is_made-Decides row keys token n small =
    let test = λ (key : List ℕ). bytes_eq token (token_text row n key) in (
      λ is.
          let any = Any-from_list_any test keys is in
          record { key = any.1; listed = (any.0, any.2, any.3); fits = small; token_is = (bytes_eq-Decides token (token_text row n any.1)).0 any.4 },
      λ made. list_any-from_Any test keys (made.listed.0, made.key, made.listed.1, made.listed.2, (bytes_eq-Decides token (token_text row n made.key)).1 made.token_is),
    )

-- ---- the verdict by what is known of a token

pub verdict-shape : (row : ResetRow) (keys : List (List ℕ)) (token : List ℕ) (now : ℕ) → ¬ HasShape token → token_verdict row keys token now ≡ Shape
unfolding token_verdict
verdict-shape row keys token now none = let missing : number_in token ≡ None = none_by token (number_in token) (number_in-tells token) none in rw missing refl

pub verdict-mismatch : (row : ResetRow) (keys : List (List ℕ)) (token : List ℕ) (now n : ℕ) → HasNumber token n → ¬ IsMade token row n keys
    → token_verdict row keys token now ≡ Mismatch
unfolding token_verdict
verdict-mismatch row keys token now n has unmade =
    let found : number_in token ≡ Some n = some_by token n (number_in token) (number_in-tells token) has in
    let other : is_made row keys token n ≡ false = elim (either (is_made row keys token n)) [
      | inl made ↦ absurd (unmade ((is_made-Decides row keys token n has.fits).0 made))
      | inr other ↦ other
    ] in
    rw (found, other) refl

pub verdict-made : (row : ResetRow) (keys : List (List ℕ)) (token : List ℕ) (now n : ℕ) → HasNumber token n → IsMade token row n keys
    → token_verdict row keys token now ≡ verdict_by_age n now
unfolding token_verdict
verdict-made row keys token now n has made =
    let found : number_in token ≡ Some n = some_by token n (number_in token) (number_in-tells token) has in
    let yes : is_made row keys token n ≡ true = (is_made-Decides row keys token n has.fits).1 made in
    rw (found, yes) refl

-- ---- and each verdict is exact

exact-shape : (row : ResetRow) (keys : List (List ℕ)) (token : List ℕ) (now : ℕ) → ¬ HasShape token → IsExactVerdict Shape row keys token now
exact-shape row keys token now none = record {
  valid = (λ is. absurd (cc), λ valid. absurd (none (valid.number, IsMade-number _ _ _ _ valid.made)));
  shape = (λ _. none, λ _. refl);
  mismatch = (λ is. absurd (cc), λ other. absurd (none other.shape));
  expired = λ age. (λ is. absurd (cc), λ old. absurd (none (old.number, IsMade-number _ _ _ _ old.made)));
}

exact-mismatch : (row : ResetRow) (keys : List (List ℕ)) (token : List ℕ) (now n : ℕ) → HasNumber token n → ¬ IsMade token row n keys
    → IsExactVerdict Mismatch row keys token now
exact-mismatch row keys token now n has unmade = record {
  valid = (λ is. absurd (cc), λ valid. absurd (unmade (IsMade-same _ _ _ _ _ has valid.made).1));
  shape = (λ is. absurd (cc), λ none. absurd (none (n, has)));
  mismatch = (λ _. record { shape = (n, has); unmade = λ m made. unmade (IsMade-same _ _ _ m _ has made).1 }, λ _. refl);
  expired = λ age. (λ is. absurd (cc), λ old. absurd (unmade (IsMade-same _ _ _ _ _ has old.made).1));
}

same_age : (token : List ℕ) (row : ResetRow) (n m now : ℕ) (keys : List (List ℕ)) → HasNumber token n → IsMade token row m keys → age_at n now ≡ age_at m now
same_age token row n m now keys has made = ap (λ (k : ℕ). age_at k now) (IsMade-same token row n m keys has made).0

exact-made : (row : ResetRow) (keys : List (List ℕ)) (token : List ℕ) (now n : ℕ) (late : Bool) → HasNumber token n → IsMade token row n keys
    → Decides late (259200 < age_at n now) → IsExactVerdict (if late then Expired (age_at n now) else Valid) row keys token now
exact-made row keys token now n true has made old = record {
  valid = (λ is. absurd (cc), λ valid. absurd (let same = same_age token row n valid.number now keys has valid.made in omega (arith, old.0 refl, same, valid.allowed)));
  shape = (λ is. absurd (cc), λ none. absurd (none (n, has)));
  mismatch = (λ is. absurd (cc), λ other. absurd (other.unmade n made));
  expired = λ age. (
    λ is. let same : age_at n now ≡ age = cc in record { number = n; made = made; age_is = sym same; beyond = subst (λ (a : ℕ). 259200 < a) same (old.0 refl) },
    λ other. ap (λ (a : ℕ). Expired a) (same_age token row n other.number now keys has other.made ∙ sym other.age_is),
  );
}
exact-made row keys token now n false has made old = record {
  valid = (λ _. record { number = n; made = made; allowed = let young = not_from_Decides false old refl in omega (arith, young) }, λ _. refl);
  shape = (λ is. absurd (cc), λ none. absurd (none (n, has)));
  mismatch = (λ is. absurd (cc), λ other. absurd (other.unmade n made));
  expired = λ age. (
    λ is. absurd (cc),
    λ other. absurd (
        let same = same_age token row n other.number now keys has other.made in
        not_from_Decides false old refl (omega (arith, same, other.age_is, other.beyond))),
  );
}

exact_by : (row : ResetRow) (keys : List (List ℕ)) (token : List ℕ) (now : ℕ) (r : Option ℕ) → MatchOption r (¬ HasShape token) (HasNumber token)
    → IsExactVerdict (token_verdict row keys token now) row keys token now
exact_by row keys token now None none =
    subst (λ (v : ResetVerdict). IsExactVerdict v row keys token now) (sym (verdict-shape row keys token now none)) (exact-shape row keys token now none)
exact_by row keys token now (Some n) has = elim (either (is_made row keys token n)) [
  | inl made_is ↦
      let made = (is_made-Decides row keys token n has.fits).0 made_is in
      subst (λ (v : ResetVerdict). IsExactVerdict v row keys token now) (sym (verdict-made row keys token now n has made))
      (exact-made row keys token now n _ has made (Decides-ltb 259200 (age_at n now)))
  | inr unmade_is ↦
      let unmade = not_from_Decides _ (is_made-Decides row keys token n has.fits) unmade_is in
      subst (λ (v : ResetVerdict). IsExactVerdict v row keys token now) (sym (verdict-mismatch row keys token now n has unmade))
      (exact-mismatch row keys token now n has unmade)
]

pub verdict_is_exact : VerdictIsExact
verdict_is_exact row keys token now = exact_by row keys token now (number_in token) (number_in-tells token)
