-- Keys put in order one after another ascend, and are just these keys.
use Rattle.std.proofs.Common.{◌≡◌, ◌↔◌, ◌⊎◌, zero, suc, inl, inr, List, [], ◌∷◌, Contains, refl, sym, ap, ◌∙◌, arith}
use Rattle.std.specs.declared.cmp.Ordering.{Ordering}
use Rattle.std.specs.declared.cmp.Ordering.TheVariants.{Less, Equal, Greater}
use Rattle.std.specs.BTreeSet.{insert_key}
use Rattle.std.specs.Cmp.{IsTotalOrder}
use Rattle.std.specs.List.{AllByRecursion, fold}
use Rattle.std.specs.List.Sorted.{IsStrictlySortedBy}
use Rattle.std.specs.Ordering.{match_ordering, ordering_reverse}
use Rattle.std.proofs.lemmas.Map.Lookups.{CmpEqualImpliesEq}

-- what holds in each case of a comparison holds of what it picks
picked : {X : Type 0} (P : X → Type 0) (answer : Ordering) (a b c : X) → (answer ≡ Less → P a) → (answer ≡ Equal → P b) → (answer ≡ Greater → P c) → P (match_ordering answer a b c)
picked P Less a b c less equal greater = less refl
picked P Equal a b c less equal greater = equal refl
picked P Greater a b c less equal greater = greater refl

-- the key stands in the list, by recursion
In : {K : Type 0} → K → List K → Type 0
In q [] = ⊥
In q (x ∷ xs) = (x ≡ q) ⊎ In q xs

In-from_Contains : {K : Type 0} (q : K) (xs : List K) → Contains xs q → In q xs
unfolding In
In-from_Contains q [] found = absurd (omega (arith, found.1))
In-from_Contains q (x ∷ xs) (zero, lt, is) = inl is
In-from_Contains q (x ∷ xs) (suc k, lt, is) = inr (In-from_Contains q xs (k, omega arith, is))

Contains-from_In : {K : Type 0} (q : K) (xs : List K) → In q xs → Contains xs q
unfolding In
Contains-from_In q [] found = absurd found
Contains-from_In q (x ∷ xs) (inl is) = (0, omega arith, is)
Contains-from_In q (x ∷ xs) (inr rest) = let at = Contains-from_In q xs rest in (suc at.0, omega (arith, at.1), at.2)

module _ {K : Type 0} (R : K → K → Ordering) where
  -- ---- one key more

  weaker : (P Q : K → Type 0) → ((x : K) → P x → Q x) → (xs : List K) → AllByRecursion P xs → AllByRecursion Q xs
  weaker P Q gives [] all = tt
  weaker P Q gives (x ∷ xs) all = (gives x all.0, weaker P Q gives xs all.1)

  All-insert : (P : K → Type 0) (k : K) (xs : List K) → P k → AllByRecursion P xs → AllByRecursion P (insert_key R xs k)
  All-insert P k [] here all = (here, tt)
  All-insert P k (x ∷ xs) here all = picked (AllByRecursion P) (R k x) (k ∷ x ∷ xs) (x ∷ xs) (x ∷ insert_key R xs k)
      (λ _. (here, all)) (λ _. all) (λ _. (all.0, All-insert P k xs here all.1))

  sorted-insert : IsTotalOrder R → (k : K) (xs : List K) → IsStrictlySortedBy R xs → IsStrictlySortedBy R (insert_key R xs k)
  unfolding IsStrictlySortedBy
  sorted-insert o k [] sorted = (tt, tt)
  sorted-insert o k (x ∷ xs) sorted = picked (IsStrictlySortedBy R) (R k x) (k ∷ x ∷ xs) (x ∷ xs) (x ∷ insert_key R xs k)
      (λ less. ((less, weaker (λ y. R x y ≡ Less) (λ y. R k y ≡ Less) (λ y above. o.trans k x y less above) xs sorted.0), sorted))
      (λ _. sorted)
      (λ greater. (All-insert (λ y. R x y ≡ Less) k xs (o.antisymm x k ∙ ap ordering_reverse greater) sorted.0, sorted-insert o k xs sorted.1))

  In-inserted : (q k : K) (xs : List K) → In q (insert_key R xs k) → In q xs ⊎ (k ≡ q)
  unfolding In
  In-inserted q k [] found = elim found [
    | inl is ↦ inr is
    | inr none ↦ absurd none
  ]
  In-inserted q k (x ∷ xs) found = picked (λ l. In q l → In q (x ∷ xs) ⊎ (k ≡ q)) (R k x) (k ∷ x ∷ xs) (x ∷ xs) (x ∷ insert_key R xs k)
      (λ _ at. elim at [ inl is ↦ inr is | inr rest ↦ inl rest ])
      (λ _ at. inl at)
      (λ _ at. elim at [ inl is ↦ inl (inl is) | inr rest ↦ elim (In-inserted q k xs rest) [ inl old ↦ inl (inr old) | inr new ↦ inr new ] ])
      found

  In-insert : CmpEqualImpliesEq R → (q k : K) (xs : List K) → In q xs ⊎ (k ≡ q) → In q (insert_key R xs k)
  unfolding In
  In-insert exact q k [] either = elim either [
    | inl none ↦ absurd none
    | inr is ↦ inl is
  ]
  In-insert exact q k (x ∷ xs) either = picked (In q) (R k x) (k ∷ x ∷ xs) (x ∷ xs) (x ∷ insert_key R xs k)
      (λ _. elim either [ inl old ↦ inr old | inr is ↦ inl is ])
      (λ equal. elim either [ inl old ↦ old | inr is ↦ inl (sym (exact k x equal) ∙ is) ])
      (λ _. elim either [
        | inl old ↦ elim old [ inl is ↦ inl is | inr rest ↦ inr (In-insert exact q k xs (inl rest)) ]
        | inr is ↦ inr (In-insert exact q k xs (inr is))
      ])

  -- ---- all keys

  pub sorted-fold : IsTotalOrder R → (keys names : List K) → IsStrictlySortedBy R keys → IsStrictlySortedBy R (fold (insert_key R) keys names)
  sorted-fold o keys [] sorted = sorted
  sorted-fold o keys (name ∷ names) sorted = sorted-fold o (insert_key R keys name) names (sorted-insert o name keys sorted)

  In-folded : (q : K) (keys names : List K) → In q (fold (insert_key R) keys names) → In q keys ⊎ In q names
  unfolding In
  In-folded q keys [] found = inl found
  In-folded q keys (name ∷ names) found = elim (In-folded q (insert_key R keys name) names found) [
    | inl old ↦ elim (In-inserted q name keys old) [ inl before ↦ inl before | inr is ↦ inr (inl is) ]
    | inr rest ↦ inr (inr rest)
  ]

  In-fold : CmpEqualImpliesEq R → (q : K) (keys names : List K) → In q keys ⊎ In q names → In q (fold (insert_key R) keys names)
  unfolding In
  In-fold exact q keys [] either = elim either [ inl old ↦ old | inr none ↦ absurd none ]
  In-fold exact q keys (name ∷ names) either = In-fold exact q (insert_key R keys name) names (elim either [
    | inl old ↦ inl (In-insert exact q name keys (inl old))
    | inr rest ↦ elim rest [ inl is ↦ inl (In-insert exact q name keys (inr is)) | inr later ↦ inr later ]
  ])

  -- the keys are those put in
  pub Contains-fold : CmpEqualImpliesEq R → (names : List K) (q : K) → Contains (fold (insert_key R) [] names) q ↔ Contains names q
  unfolding In
  Contains-fold exact names q = (
    λ found. elim (In-folded q [] names (In-from_Contains q _ found)) [ inl none ↦ absurd none | inr at ↦ Contains-from_In q names at ],
    λ found. Contains-from_In q _ (In-fold exact q [] names (inr (In-from_Contains q names found))),
  )
