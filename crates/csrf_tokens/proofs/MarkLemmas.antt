-- Texts that begin or end with a mark, and texts up to their first mark.
use Rattle.std.proofs.Common.{◌≡◌, ◌≢◌, ◌⊎◌, ℕ, suc, ◌+◌, ◌-◌, ◌<◌, ◌==◌, ◌||◌, Bool, true, false, List, [], ◌∷◌, ◌++◌, length, take, get_or, refl, sym, ap, ◌∙◌, arith, Option, Some, None, MatchOption, nat_eq, inl, inr, length-append}
use denote.Ref.{Bor}
use Rattle.std.specs.List.{before_first, ends_with, position_or_len}
use Rattle.std.specs.Option.{option_copied}
use Rattle.std.proofs.lemmas.Bool.{eqb-true}
use Rattle.std.proofs.lemmas.Bool.Decides.{Decides-eqb, nat_tests}
use Rattle.std.proofs.lemmas.Slice.Eq.{ends_is}
use Rattle.std.proofs.Math.Seq.{get_or-append_seam, take-append_seam}
use Rattle.csrf_tokens.specs.Marks.{after_mark, before_mark}

-- a test is true or false
pub either : (b : Bool) → (b ≡ true) ⊎ (b ≡ false)
either b = elim b as (λ v. (v ≡ true) ⊎ (v ≡ false)) [ true ↦ inl refl | false ↦ inr refl ]

pub Some-injective : {x y : List ℕ} → Some x ≡ Some y → x ≡ y
Some-injective same = cc

pub None≢Some : {x : List ℕ} → None ≡ Some x → ⊥
None≢Some same = cc

-- a text that begins with the mark
after_mark-cons : (mark : ℕ) (rest : List ℕ) → after_mark mark (mark ∷ rest) ≡ Some rest
after_mark-cons mark rest = grind (arith, nat_tests)

-- one that doesn't
after_mark-none : (mark : ℕ) (text : List ℕ) → ((rest : List ℕ) → text ≢ mark ∷ rest) → after_mark mark text ≡ None
after_mark-none mark [] none = refl
after_mark-none mark (c ∷ rest) none =
    let differ : c ≢ mark = λ same. none rest (ap (λ (x : ℕ). x ∷ rest) same) in
    grind (arith, nat_tests, differ)

pub after_mark-stripped : (mark : ℕ) (text : List ℕ) (r : Option (Bor (List ℕ)))
    → MatchOption r ((rest : List ℕ) → text ≢ mark ∷ rest) (λ x. text ≡ mark ∷ x.now) → option_copied r ≡ after_mark mark text
after_mark-stripped mark text None none = sym (after_mark-none mark text none)
after_mark-stripped mark text (Some x) found = rw found (sym (after_mark-cons mark x.now))

-- a test that can't be true is false
pub cases_false : (b : Bool) → (b ≡ true → ⊥) → b ≡ false
cases_false b never = elim b as (λ v. (v ≡ true → ⊥) → v ≡ false) [ true ↦ λ not_true. absurd (not_true refl) | false ↦ λ _. refl ] never

-- a text that ends with the mark
pub before_mark-end : (mark : ℕ) (front : List ℕ) → before_mark mark (front ++ mark ∷ []) ≡ Some front
unfolding before_mark
before_mark-end mark front =
    let found = (ends_is Decides-eqb (front ++ mark ∷ []) (mark ∷ []) _ refl).1 front refl in
    let long : length (front ++ mark ∷ []) - 1 ≡ length front = simp length-append (omega arith) in
    rw (found, long) (ap Some (take-append_seam front (mark ∷ [])))

-- one that doesn't
before_mark-none : (mark : ℕ) (text : List ℕ) → ((front : List ℕ) → text ≢ front ++ mark ∷ []) → before_mark mark text ≡ None
unfolding before_mark
before_mark-none mark text none =
    let cut = ends_is Decides-eqb text (mark ∷ []) (ends_with nat_eq text (mark ∷ [])) refl in
    let missing : ends_with nat_eq text (mark ∷ []) ≡ false = cases_false _ (λ yes. none _ (cut.0 yes)) in
    rw missing refl

pub before_mark-stripped : (mark : ℕ) (text : List ℕ) (r : Option (Bor (List ℕ)))
    → MatchOption r ((front : List ℕ) → text ≢ front ++ mark ∷ []) (λ x. text ≡ x.now ++ mark ∷ []) → option_copied r ≡ before_mark mark text
before_mark-stripped mark text None none = sym (before_mark-none mark text none)
before_mark-stripped mark text (Some x) found = rw found (sym (before_mark-end mark x.now))

-- where something is found, it is what the text begins or ends with
pub after_mark-gives : (mark : ℕ) (text rest : List ℕ) → after_mark mark text ≡ Some rest → text ≡ mark ∷ rest
after_mark-gives mark [] rest found = cc
after_mark-gives mark (c ∷ text) rest found = elim (either (c == mark)) [
  | inl same ↦
      let is : text ≡ rest = Some-injective (rw same at found) in
      rw (eqb-true c mark same, is) refl
  | inr other ↦ absurd (None≢Some (rw other at found))
]

pub before_mark-gives : (mark : ℕ) (text front : List ℕ) → before_mark mark text ≡ Some front → text ≡ front ++ mark ∷ []
unfolding before_mark
before_mark-gives mark text front found =
    let ends : Bool = ends_with nat_eq text (mark ∷ []) in
    elim (either ends) [
      | inl found_end ↦
          let cut = (ends_is Decides-eqb text (mark ∷ []) ends refl).0 found_end in
          let is : take (length text - 1) text ≡ front = Some-injective (rw found_end at found) in
          rw (← is) cut
      | inr other ↦ absurd (None≢Some (rw other at found))
    ]

take_cons : (n c : ℕ) (rest : List ℕ) → take (1 + n) (c ∷ rest) ≡ c ∷ take n rest
take_cons n c rest = let next : 1 + n ≡ suc n = omega arith in rw next refl

-- an element that passes ends what comes before the first, and another is kept
before_first-yes : (p : ℕ → Bool) (c : ℕ) (rest : List ℕ) → p c ≡ true → before_first p (c ∷ rest) ≡ []
before_first-yes p c rest passes = rw passes refl

before_first-no : (p : ℕ → Bool) (c : ℕ) (rest : List ℕ) → p c ≡ false → before_first p (c ∷ rest) ≡ c ∷ before_first p rest
before_first-no p c rest fails = rw fails (take_cons (position_or_len p rest) c rest)

-- up to the first element that passes one test, then another: up to the first that passes either
pub before_first-twice : (p q : ℕ → Bool) (text : List ℕ) → before_first p (before_first q text) ≡ before_first (λ c. q c || p c) text
before_first-twice p q [] = refl
before_first-twice p q (c ∷ rest) =
    let both : ℕ → Bool = λ d. q d || p d in
    elim (either (q c)) [
      | inl first ↦
          let ends : both c ≡ true = rw first refl in
          ap (before_first p) (before_first-yes q c rest first) ∙ sym (before_first-yes both c rest ends)
      | inr first ↦ ap (before_first p) (before_first-no q c rest first) ∙ elim (either (p c)) [
        | inl second ↦
            let ends : both c ≡ true = rw (first, second) refl in
            before_first-yes p c (before_first q rest) second ∙ sym (before_first-yes both c rest ends)
        | inr second ↦
            let goes_on : both c ≡ false = rw (first, second) refl in
            before_first-no p c (before_first q rest) second ∙ ap (λ (l : List ℕ). c ∷ l) (before_first-twice p q rest)
            ∙ sym (before_first-no both c rest goes_on)
      ]
    ]

-- where a mark joins two parts
pub mark_at : (mark : ℕ) (text front rest : List ℕ) → text ≡ front ++ mark ∷ rest → (length front < length text) × (get_or text (length front) 0 ≡ mark)
mark_at mark text front rest whole =
    let long = ap length whole ∙ length-append front (mark ∷ rest) in
    (omega arith, ap (λ (l : List ℕ). get_or l (length front) 0) whole ∙ get_or-append_seam front mark rest 0)
