-- What a search by halves finds.
use Rattle.std.proofs.Common.{◌≡◌, ◌≢◌, ◌⊎◌, ℕ, ◌+◌, ◌<◌, ◌≤◌, false, nat_eq, IsTrue, inl, inr, List, Contains, length, get_or, refl, sym, ap, subst, ◌∙◌, arith}
use Rattle.std.specs.declared.cmp.Ordering.{Ordering}
use Rattle.std.specs.declared.cmp.Ordering.TheVariants.{Less, Equal, Greater}
use Rattle.std.specs.declared.result.Result.{Result}
use Rattle.std.specs.declared.result.Result.TheVariants.{Ok, Err}
use Rattle.std.specs.Cmp.{IsTotalOrder}
use Rattle.std.specs.List.{list_any}
use Rattle.std.specs.List.Sorted.{IsBinarySearchResult, IsNonDecreasing, IsSearchInRange, IsSortedBy, IsStrictlySortedBy}
use Rattle.std.specs.Ordering.{is_lt, nat_cmp, ordering_reverse}
use Rattle.std.specs.Result.{is_ok}
use Rattle.std.proofs.lemmas.Bool.{ne_eqb}
use Rattle.std.proofs.Common.{eq-eqb}
use Rattle.std.proofs.lemmas.Grind.{get_or_default_zero}
use Rattle.std.proofs.lemmas.Cmp.{tied_itself}
use Rattle.std.proofs.lemmas.List.Folds.{list_any_at, list_any_none}
use Rattle.std.proofs.lemmas.List.Sorted.{searchable_from_sorted, searched}
use Rattle.std.proofs.lemmas.Map.Keys.{Less-from_sorted}
use Rattle.std.proofs.lemmas.Map.Lookups.{CmpEqualImpliesEq}

below_or_not : (k i : ℕ) → (k < i) ⊎ (i ≤ k)
below_or_not k i = grind arith

module _ {K : Type 0} (R : K → K → Ordering) (o : IsTotalOrder R) where
  -- keys that ascend are sorted, in the weaker word of a search
  sorted_weaker : (keys : List K) → IsStrictlySortedBy R keys → IsSortedBy (λ a b. is_lt (R a b)) keys
  sorted_weaker keys ascending k d low high =
      let less = Less-from_sorted R keys k (k + 1) d ascending (omega arith) high in
      ap is_lt (o.antisymm (get_or keys (k + 1) d) (get_or keys k d) ∙ ap ordering_reverse less)

  -- a search by halves finds a key just where it is in the list
  pub Contains-searched : CmpEqualImpliesEq R → (keys : List K) (key : K) (found : Result ℕ ℕ) → IsStrictlySortedBy R keys → IsSearchInRange found (length keys)
      → IsBinarySearchResult (λ y. R y key) keys found → (IsTrue (is_ok found) → Contains keys key) × (Contains keys key → IsTrue (is_ok found))
  Contains-searched exact keys key (Ok i) ascending bound at = (λ _. (i, bound, exact _ _ (at key)), λ _. refl)
  Contains-searched exact keys key (Err i) ascending bound parts =
      let split = parts (searchable_from_sorted o (λ (x : K). x) keys key (sorted_weaker keys ascending)) in
      let itself : R key key ≡ Equal = tied_itself o key in (
        λ yes. cc yes,
        λ (k, lt, is). elim (below_or_not k i) [
          | inl low ↦ let less : R (get_or keys k key) key ≡ Less = split.0 k key (omega arith) low in
              let here : R key key ≡ Less = subst (λ (y : K). R y key ≡ Less) is less in absurd (cc (itself, here))
          | inr high ↦ let greater : R (get_or keys k key) key ≡ Greater = split.1 k key high lt in
              let here : R key key ≡ Greater = subst (λ (y : K). R y key ≡ Greater) is greater in absurd (cc (itself, here))
        ],
      )

misses : (ids : List ℕ) (id k d : ℕ) → k < length ids → get_or ids k 0 ≢ id → nat_eq (get_or ids k d) id ≡ false
misses ids id k d lt other = ne_eqb _ _ (λ is. other (sym (get_or_default_zero ids k d lt) ∙ is))

-- of numbers that never fall
pub list_any-searched : (ids : List ℕ) (id : ℕ) (found : Result ℕ ℕ) → IsNonDecreasing ids → IsBinarySearchResult (λ y. nat_cmp y id) ids found
    → is_ok found ≡ list_any (λ listed. nat_eq listed id) ids
list_any-searched ids id (Ok i) rise at =
    let here = searched ids id (Ok i) at (λ j k le lt. rise j k 0 le lt) in
    sym (list_any_at (λ listed. nat_eq listed id) ids i 0 here.0 (eq-eqb (get_or ids i 0) id here.1))
list_any-searched ids id (Err i) rise at =
    let parts = searched ids id (Err i) at (λ j k le lt. rise j k 0 le lt) in
    sym (list_any_none (λ listed. nat_eq listed id) ids (λ k d lt. elim (below_or_not k i) [
      | inl low ↦ let less : get_or ids k 0 < id = parts.1 k low in misses ids id k d lt (omega (arith, less))
      | inr high ↦ let more : id < get_or ids k 0 = parts.2 k high lt in misses ids id k d lt (omega (arith, more))
    ]))
