-- What tests on bytes and lists tell.
use Rattle.std.proofs.Common.{◌≡◌, ℕ, suc, ◌+◌, ◌<◌, ◌==◌, ◌&&◌, ◌||◌, ◌⊎◌, inl, inr, not, Bool, true, false, List, [], ◌∷◌, ◌++◌, length, drop, get_or, refl, sym, ap, ◌∙◌, arith, Option, Some, None, append_assoc, length-append}
use Rattle.std.proofs.Math.Seq.{drop-append_seam, take-append_seam}
use Rattle.std.proofs.lemmas.Bool.{eqb-true, false≢true}
use Rattle.std.proofs.lemmas.Bool.Decides.{nat_tests}
use Rattle.std.proofs.lemmas.List.{length-drop}
use Rattle.std.proofs.lemmas.List.Sums.{prefix_len_stops, split_at_first}
use Rattle.std.specs.List.{after_first, before_first, list_all, position_or_len}
use Rattle.std.specs.Option.{option_map_or}
use Rattle.csrf_tokens.specs.Hosts.{is_empty}
use Rattle.csrf_tokens.proofs.MarkLemmas.{either}

-- both parts of a test hold
pub and_tells : (a b : Bool) → (a && b) ≡ true → (a ≡ true) × (b ≡ true)
and_tells a b both = elim a as (λ v. (v && b) ≡ true → (v ≡ true) × (b ≡ true)) [
  | true ↦ λ h. (refl, h)
  | false ↦ λ h. absurd (false≢true h)
] both

-- one part of a test holds
pub or_tells : (a b : Bool) → (a || b) ≡ true → (a ≡ true) ⊎ (b ≡ true)
or_tells a b one = elim a as (λ v. (v || b) ≡ true → (v ≡ true) ⊎ (b ≡ true)) [
  | true ↦ λ h. inl refl
  | false ↦ λ h. inr h
] one

-- a value that a test holds of
pub value_of : (f : List ℕ → Bool) (o : Option (List ℕ)) → option_map_or f o false ≡ true → (x : List ℕ) × (o ≡ Some x) × (f x ≡ true)
value_of f None holds = absurd (false≢true holds)
value_of f (Some x) holds = (x, refl, holds)

-- a byte that passes a test is no mark that fails it
pub not_mark : (p : ℕ → Bool) (mark : ℕ) → p mark ≡ false → (c : ℕ) → p c ≡ true → not (c == mark) ≡ true
not_mark p mark fails c passes = elim (either (c == mark)) [
  | inl same ↦ absurd (false≢true (sym fails ∙ ap p (sym (eqb-true c mark same)) ∙ passes))
  | inr other ↦ ap not other
]

-- bytes that pass a test pass a weaker one
pub list_all-weaker : (p q : ℕ → Bool) → ((c : ℕ) → p c ≡ true → q c ≡ true) → (xs : List ℕ) → list_all p xs ≡ true → list_all q xs ≡ true
list_all-weaker p q weaker [] all = refl
list_all-weaker p q weaker (x ∷ xs) all =
    let parts = and_tells (p x) (list_all p xs) all in
    let head = weaker x parts.0 in
    let tail = list_all-weaker p q weaker xs parts.1 in
    rw (head, tail) refl

pub suc_add : (n : ℕ) → 1 + n ≡ suc n
suc_add n = omega arith

-- the first mark stands where the bytes before it are none
pub position_or_len-append : (p : ℕ → Bool) (xs : List ℕ) (y : ℕ) (ys : List ℕ) → list_all (λ c. not (p c)) xs ≡ true → p y ≡ true
    → position_or_len p (xs ++ y ∷ ys) ≡ length xs
position_or_len-append p [] y ys none found = rw found refl
position_or_len-append p (x ∷ xs) y ys none found =
    let parts = and_tells (not (p x)) (list_all (λ c. not (p c)) xs) none in
    let tail = position_or_len-append p xs y ys parts.1 found in
    rw (parts.0, tail) (suc_add (length xs))

pub position_or_len-none : (p : ℕ → Bool) (xs : List ℕ) → list_all (λ c. not (p c)) xs ≡ true → position_or_len p xs ≡ length xs
position_or_len-none p [] none = refl
position_or_len-none p (x ∷ xs) none =
    let parts = and_tells (not (p x)) (list_all (λ c. not (p c)) xs) none in
    let tail = position_or_len-none p xs parts.1 in
    rw (parts.0, tail) (suc_add (length xs))

-- ---- texts that are cut at their first mark

pub before_first-joined : (p : ℕ → Bool) (xs : List ℕ) (y : ℕ) (ys : List ℕ) → list_all (λ c. not (p c)) xs ≡ true → p y ≡ true
    → before_first p (xs ++ y ∷ ys) ≡ xs
before_first-joined p xs y ys none found = rw (position_or_len-append p xs y ys none found) (take-append_seam xs (y ∷ ys))

pub after_first-joined : (p : ℕ → Bool) (xs : List ℕ) (y : ℕ) (ys : List ℕ) → list_all (λ c. not (p c)) xs ≡ true → p y ≡ true
    → after_first p (xs ++ y ∷ ys) ≡ ys
after_first-joined p xs y ys none found =
    let split : xs ++ y ∷ ys ≡ (xs ++ y ∷ []) ++ ys = sym (append_assoc xs (y ∷ []) ys) in
    let long : length xs + 1 ≡ length (xs ++ y ∷ []) = sym (length-append xs (y ∷ [])) in
    ap (λ (n : ℕ). drop (n + 1) (xs ++ y ∷ ys)) (position_or_len-append p xs y ys none found)
    ∙ ap (λ (l : List ℕ). drop (length xs + 1) l) split ∙ ap (λ (n : ℕ). drop n ((xs ++ y ∷ []) ++ ys)) long
    ∙ drop-append_seam (xs ++ y ∷ []) ys

pub double_not : (b : Bool) → not b ≡ false → b ≡ true
double_not true same = refl
double_not false same = absurd (false≢true (sym same))

-- a text with something after the first mark is cut there
pub cut_at_mark : (mark : ℕ) (text : List ℕ) → 0 < length (after_first (λ c. c == mark) text)
    → text ≡ before_first (λ c. c == mark) text ++ mark ∷ after_first (λ c. c == mark) text
cut_at_mark mark text some =
    let is_mark : ℕ → Bool = λ c. c == mark in
    let long = length-drop (position_or_len is_mark text + 1) text in
    let within : position_or_len is_mark text < length text = omega (arith, long, some) in
    let stops = prefix_len_stops (λ c. not (is_mark c)) text 0 within in
    let found : get_or text (position_or_len is_mark text) 0 ≡ mark = eqb-true _ mark (double_not _ stops) in
    split_at_first is_mark text 0 within ∙ ap (λ (c : ℕ). before_first is_mark text ++ c ∷ after_first is_mark text) found

-- ---- empty texts

pub is_empty-cons : (c : ℕ) (rest : List ℕ) → is_empty (c ∷ rest) ≡ false
is_empty-cons c rest = grind (arith, nat_tests)

pub not_empty : (text : List ℕ) → not (is_empty text) ≡ true → 0 < length text
not_empty [] some = absurd (false≢true some)
not_empty (c ∷ rest) some = omega arith

pub is_not_empty : (text : List ℕ) → 0 < length text → not (is_empty text) ≡ true
is_not_empty [] some = absurd (omega arith)
is_not_empty (c ∷ rest) some = rw (is_empty-cons c rest) refl
