-- Texts that differ, before and after they are sorted.
use Rattle.std.proofs.Common.{◌≡◌, ◌≢◌, ◌↔◌, Ordering, Less, Equal, Greater, ℕ, ◌+◌, ◌<◌, true, false, Bool, List, [], length, get_or, bytes_eq, refl, sym, ap, ◌∙◌, arith}
use Rattle.std.specs.Cmp.Lexicographic.{slice_cmp}
use Rattle.std.specs.List.Sorted.{IsPermutation, IsSorted}
use Rattle.std.specs.List.{IsDistinct}
use Rattle.std.specs.Ordering.{is_eq, is_lt, nat_cmp, ordering_reverse}
use Rattle.std.proofs.lemmas.Bool.{false≢true}
use Rattle.std.proofs.lemmas.Cmp.{nat_list_cmp_total}
use Rattle.std.proofs.lemmas.List.Sorted.{IsPermutation-sym}
use Rattle.std.proofs.lemmas.Map.Keys.{IsDistinct-IsPermutation, IsDistinct-from_apart, Less-from_sorted, apart_from_distinct, sorted_from_all_adjacent}
use Rattle.std.proofs.lemmas.Map.Text.{is_eq-slice_cmp}
use Rattle.std.proofs.lemmas.Slice.Eq.{bytes_eq-Decides}
use Rattle.crypto_text.specs.TextList.{AreDifferent}

differ-bytes_eq : (x y : List ℕ) → x ≢ y → bytes_eq x y ≡ false
differ-bytes_eq x y differ = at (bytes_eq x y) refl
  where
    at : (b : Bool) → bytes_eq x y ≡ b → b ≡ false
    at true is = absurd (differ ((bytes_eq-Decides x y).0 is))
    at false is = refl

same-bytes_eq : (x y : List ℕ) → x ≡ y → bytes_eq x y ≡ true
same-bytes_eq x y same = (bytes_eq-Decides x y).1 same

bytes_eq-flips : (x y : List ℕ) → bytes_eq x y ≡ bytes_eq y x
bytes_eq-flips x y = at (bytes_eq x y) refl
  where
    at : (b : Bool) → bytes_eq x y ≡ b → b ≡ bytes_eq y x
    at true is = sym (same-bytes_eq y x (sym ((bytes_eq-Decides x y).0 is)))
    at false is = sym (differ-bytes_eq y x (λ same. false≢true (sym is ∙ same-bytes_eq x y (sym same))))

AreDifferent-distinct : (texts : List (List ℕ)) → IsDistinct bytes_eq texts → AreDifferent texts
AreDifferent-distinct texts distinct =
    λ i j d below within same. false≢true (sym (apart_from_distinct bytes_eq texts i j d distinct below within) ∙ same-bytes_eq _ _ same)

IsDistinct-different : (texts : List (List ℕ)) → AreDifferent texts → IsDistinct bytes_eq texts
IsDistinct-different texts different = IsDistinct-from_apart bytes_eq texts (λ i j d below within. differ-bytes_eq _ _ (different i j d below within))

-- the order doesn't matter
pub AreDifferent-IsPermutation : (texts others : List (List ℕ)) → IsPermutation texts others → AreDifferent texts → AreDifferent others
AreDifferent-IsPermutation texts others moved different =
    AreDifferent-distinct others (IsDistinct-IsPermutation bytes_eq bytes_eq-flips texts others moved (IsDistinct-different texts different))

-- of two neighbours that differ, the one that isn't less is greater
rises : (x y : List ℕ) → is_lt (slice_cmp nat_cmp y x) ≡ false → x ≢ y → slice_cmp nat_cmp x y ≡ Less
rises x y no_less differ = at (slice_cmp nat_cmp x y) refl
  where
    at : (o : Ordering) → slice_cmp nat_cmp x y ≡ o → o ≡ Less
    at Less is = refl
    at Equal is = absurd (false≢true (sym (differ-bytes_eq x y differ) ∙ sym (is_eq-slice_cmp x y) ∙ ap is_eq is))
    at Greater is = absurd (false≢true (sym no_less ∙ ap is_lt (nat_list_cmp_total.antisymm y x ∙ ap ordering_reverse is)))

-- sorted texts differ where neighbours do
pub AreDifferent-neighbours : (texts : List (List ℕ)) → IsSorted (slice_cmp nat_cmp) texts → ((k : ℕ) → k + 1 < length texts → get_or texts k [] ≢ get_or texts (k + 1) [])
    → AreDifferent texts
AreDifferent-neighbours texts sorted differ =
    let rising = sorted_from_all_adjacent nat_list_cmp_total texts [] (λ k lt. rises _ _ (sorted k [] (omega arith) lt) (differ k lt)) in
    λ i j d below within same.
    let less = Less-from_sorted (slice_cmp nat_cmp) texts i j d rising below within in
    false≢true (ap is_eq (sym less) ∙ is_eq-slice_cmp (get_or texts i d) (get_or texts j d) ∙ same-bytes_eq _ _ same)

neighbours_differ-of : (texts : List (List ℕ)) → AreDifferent texts → (k : ℕ) → k + 1 < length texts → get_or texts k [] ≢ get_or texts (k + 1) []
neighbours_differ-of texts different k lt = different k (k + 1) [] (omega arith) lt

-- so what is found of the sorted neighbours is found of all
pub are_different-sorted : (texts sorted : List (List ℕ)) (answer : Bool) → IsPermutation texts sorted → IsSorted (slice_cmp nat_cmp) sorted
    → (answer ≡ true) ↔ ((k : ℕ) → k + 1 < length sorted → get_or sorted k [] ≢ get_or sorted (k + 1) []) → (answer ≡ true) ↔ AreDifferent texts
are_different-sorted texts sorted answer moved order found = (
  λ yes. AreDifferent-IsPermutation sorted texts (IsPermutation-sym texts sorted moved) (AreDifferent-neighbours sorted order (found.0 yes)),
  λ different. found.1 (neighbours_differ-of sorted (AreDifferent-IsPermutation texts sorted moved different)),
)
