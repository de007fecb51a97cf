-- Lists of entries: who owns them, how they begin, and how two lists are interleaved.
use Rattle.std.proofs.Common.{◌≡◌, ◌≢◌, ℕ, suc, ◌+◌, ◌≤◌, inl, inr, if◌then◌else◌, Bool, true, false, List, [], ◌∷◌, ◌++◌, length, map, drop, sym, refl, ap, ◌∙◌, subst, eqb, eq-eqb, ne_eqb, arith, append_assoc}
use Rattle.std.proofs.lemmas.List.{append-nil}
use mathlib.Core.Logic.{dite}
use native.Mathlib.Decide.{ℕ_discrete}
use Rattle.std.proofs.lemmas.Bool.Decides.{nat_tests}
use Rattle.turn_lock.specs.declared.view.Beside.{Beside}
use Rattle.turn_lock.specs.Log.{own_entries, StartsWith, IsInterleaving, Each, longer, shorter}
use Rattle.turn_lock.specs.Seats.{times}
use Rattle.turn_lock.specs.Views.{number_of}

module _ {E : Type 0} (owner : E → ℕ) where
  picked : (b : Bool) (x : E) (xs ys zs : List E) → zs ≡ xs ++ ys → (if b then x ∷ zs else zs) ≡ (if b then x ∷ xs else xs) ++ ys
  picked true x xs ys zs e = ap (λ (z : List E). x ∷ z) e
  picked false x xs ys zs e = e

  pub own_entries-append : (n : ℕ) (xs ys : List E) → own_entries owner n (xs ++ ys) ≡ own_entries owner n xs ++ own_entries owner n ys
  own_entries-append n [] ys = refl
  own_entries-append n (x ∷ xs) ys = picked (eqb (owner x) n) x (own_entries owner n xs) (own_entries owner n ys) (own_entries owner n (xs ++ ys)) (own_entries-append n xs ys)

  pub own_entries-mine : (n : ℕ) (e : E) → owner e ≡ n → own_entries owner n (e ∷ []) ≡ e ∷ []
  own_entries-mine n e is = rw (eq-eqb (owner e) n is) refl

  pub own_entries-other : (n : ℕ) (e : E) → owner e ≢ n → own_entries owner n (e ∷ []) ≡ []
  own_entries-other n e is = rw (ne_eqb (owner e) n is) refl

module _ {E : Type 0} where
  pub drop_front : (xs ys : List E) → drop (length xs) (xs ++ ys) ≡ ys
  drop_front [] ys = refl
  drop_front (x ∷ xs) ys = drop_front xs ys

  pub starts_longer : (xs ys zs : List E) → StartsWith xs ys → StartsWith xs (ys ++ zs)
  starts_longer xs ys zs s = (s.0 ++ zs, ap (λ (w : List E). w ++ zs) s.1 ∙ append_assoc xs s.0 zs)

  pub Each-append : (P : E → Type 0) (xs ys : List E) → Each P xs → Each P ys → Each P (xs ++ ys)
  Each-append P [] ys a b = b
  Each-append P (x ∷ xs) ys a b = (a.0, Each-append P xs ys a.1 b)

  pub Each-map : (P Q : E → Type 0) → ((x : E) → P x → Q x) → (xs : List E) → Each P xs → Each Q xs
  Each-map P Q f [] a = tt
  Each-map P Q f (x ∷ xs) a = (f x a.0, Each-map P Q f xs a.1)

  -- of two beginnings of one list, the longer one begins with the other
  pub begins_longer : (xs ys zs : List E) → StartsWith xs zs → StartsWith ys zs → length xs ≤ length ys → StartsWith xs ys
  begins_longer [] ys zs a b low = (ys, refl)
  begins_longer (x ∷ xs) [] zs a b low = absurd (omega arith)
  begins_longer (x ∷ xs) (y ∷ ys) zs a b low =
      let both : x ∷ (xs ++ a.0) ≡ y ∷ (ys ++ b.0) = sym a.1 ∙ b.1 in
      let rests : xs ++ a.0 ≡ ys ++ b.0 = ap (λ (l : List E). drop 1 l) both in
      let heads : x ≡ y = ap (λ (l : List E). elim l as (λ _. E) [ [] ↦ x | z ∷ zs ↦ z ]) both in
      let go = begins_longer xs ys (xs ++ a.0) (a.0, refl) (b.0, rests) (omega arith) in
      (go.0, (λ i. sym heads i ∷ go.1 i))

  pub shorter_longer : (xs ys : List E) → length (shorter xs ys) ≤ length (longer xs ys)
  shorter_longer xs ys = grind (arith, nat_tests)

module _ {E : Type 0} (owner : E → ℕ) where
  one_more : (m : ℕ) → 1 + m ≡ 0 → ⊥
  one_more m e = omega arith

  no_more : (m : ℕ) → 0 + m ≡ 0 → m ≡ 0
  no_more m e = omega arith

  none_here : (n : ℕ) (x : Beside E) (xs : List (Beside E)) → times n (map number_of (x ∷ xs)) ≡ 0 → (n ≢ x.number) × (times n (map number_of xs) ≡ 0)
  none_here n x xs none =
      let rest : ℕ = times n (map number_of xs) in
      dite (ℕ_discrete x.number n)
      (λ same. let bad : 1 + rest ≡ 0 = sym (ap (λ (b : Bool). (if b then 1 else 0) + rest) (eq-eqb x.number n same)) ∙ none in absurd (one_more rest bad))
      (λ other. ((λ e. other (sym e)), no_more rest (sym (ap (λ (b : Bool). (if b then 1 else 0) + rest) (ne_eqb x.number n other)) ∙ none)))

  -- an entry of another owner leaves what these passes own
  pub Each-grown : (tail : List E) (e : E) (xs : List (Beside E)) → times (owner e) (map number_of xs) ≡ 0 → Each (λ (x : Beside E). own_entries owner x.number tail ≡ x.own) xs
      → Each (λ (x : Beside E). own_entries owner x.number (tail ++ e ∷ []) ≡ x.own) xs
  Each-grown tail e [] none own = tt
  Each-grown tail e (x ∷ xs) none own = let z = none_here (owner e) x xs none in (
    own_entries-append owner x.number tail (e ∷ []) ∙ ((λ i. own.0 i ++ own_entries-other owner x.number e z.0 i) ∙ append-nil x.own),
    Each-grown tail e xs z.1 own.1,
  )

  own_entries-first : (n : ℕ) (e : E) (es : List E) → owner e ≡ n → own_entries owner n (e ∷ es) ≡ e ∷ own_entries owner n es
  own_entries-first n e es is = rw (eq-eqb (owner e) n is) refl

  own_entries-skip : (n : ℕ) (e : E) (es : List E) → owner e ≢ n → own_entries owner n (e ∷ es) ≡ own_entries owner n es
  own_entries-skip n e es is = rw (ne_eqb (owner e) n is) refl

  cons_is : (e : E) (es : List E) → e ∷ es ≡ [] → ⊥
  cons_is e es is = let z : suc (length es) ≡ 0 = ap (λ (l : List E). length l) is in omega arith

  -- who owns nothing of a list owns neither its first entry nor any after it
  none_owned : (n : ℕ) (e : E) (es : List E) → own_entries owner n (e ∷ es) ≡ [] → (owner e ≢ n) × (own_entries owner n es ≡ [])
  none_owned n e es none =
      let other : owner e ≢ n = λ is. cons_is e (own_entries owner n es) (sym (own_entries-first n e es is) ∙ none) in
      (other, sym (own_entries-skip n e es other) ∙ none)

  -- a list whose entries have one of two owners is made of what both own
  pub interleaved : (p q : ℕ) → p ≢ q → (es : List E) → ((n : ℕ) → n ≢ p → n ≢ q → own_entries owner n es ≡ []) → IsInterleaving (own_entries owner p es) (own_entries owner q es) es
  interleaved p q apart [] only = (refl, refl)
  interleaved p q apart (e ∷ es) only =
      let rest = interleaved p q apart es (λ n a b. (none_owned n e es (only n a b)).1) in
      dite (ℕ_discrete (owner e) p)
      (λ first. let z = own_entries-skip q e es (λ second. apart (sym first ∙ second)) in
      inl (own_entries owner p es, own_entries-first p e es first, subst (λ (ys : List E). IsInterleaving (own_entries owner p es) ys es) (sym z) rest))
      (λ not_first. dite (ℕ_discrete (owner e) q)
      (λ second. let z = own_entries-skip p e es not_first in
      inr (own_entries owner q es, own_entries-first q e es second, subst (λ (xs : List E). IsInterleaving xs (own_entries owner q es) es) (sym z) rest))
      (λ neither. absurd ((none_owned (owner e) e es (only (owner e) not_first neither)).0 refl)))
