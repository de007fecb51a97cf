-- Ids that rise, and the rows that have them.
use Rattle.std.proofs.Common.{◌≡◌, ◌≢◌, ◌↔◌, ◌⊎◌, ◌<◌, ◌≤◌, ◌+◌, ℕ, IsTrue, false, inl, inr, List, [], ◌∷◌, Some, None, Result, Ok, Err, Contains, length, get_or, refl, sym, ap, ◌∙◌, arith, suc, zero, MatchResult, eq-eqb}
use Rattle.std.specs.List.{AllPairs}
use Rattle.std.specs.List.Sorted.{IsBinarySearchResult, IsSearchInRange, IsSortedBy, IsStrictlyIncreasing}
use Rattle.std.specs.Cmp.{nat_cmp_is}
use Rattle.std.specs.Ordering.{is_lt, nat_cmp}
use Rattle.std.specs.declared.cmp.Ordering.TheVariants.{Less, Equal, Greater}
use Rattle.std.specs.Result.{is_ok}
use Rattle.std.proofs.lemmas.Bool.{ne_eqb}
use Rattle.std.proofs.lemmas.Cmp.{nat_cmp_total}
use Rattle.std.proofs.lemmas.Grind.{get_or_default_zero}
use Rattle.std.proofs.lemmas.List.{get_or-map, length-map}
use Rattle.std.proofs.lemmas.List.Kept.{AllPairs-from_increasing}
use Rattle.std.proofs.lemmas.List.Sorted.{searchable_from_sorted, searched}
use Rattle.ledger_rows.specs.Opening.{ids_of_users}
use Rattle.ledger_rows.specs.Tables.{user_of}
use Rattle.ledger_rows.specs.declared.rows.UserRow.{UserRow}

below_or_not : (k i : ℕ) → (k < i) ⊎ (i ≤ k)
below_or_not k i = grind arith

-- ids that rise never fall
rises : (ids : List ℕ) → IsStrictlyIncreasing ids → (i j : ℕ) → i ≤ j → j < length ids → get_or ids i 0 ≤ get_or ids j 0
rises ids rising i j le lt = elim (below_or_not i j) [
  | inl low ↦ let less : get_or ids i 0 < get_or ids j 0 = AllPairs-from_increasing ids rising i j 0 low lt in omega arith
  | inr high ↦ let same : i ≡ j = omega arith in rw same (omega arith)
]

-- an id is found by halves just where it is in the list
pub Contains-searched : (ids : List ℕ) (id : ℕ) (found : Result ℕ ℕ) → IsStrictlyIncreasing ids → IsBinarySearchResult (λ y. nat_cmp y id) ids found → IsTrue (is_ok found) ↔ Contains ids id
Contains-searched ids id (Ok i) rising at =
    let here = searched ids id (Ok i) at (rises ids rising) in
    (λ _. (i, here.0, get_or_default_zero ids i id here.0 ∙ here.1), λ _. refl)
Contains-searched ids id (Err i) rising at =
    let parts = searched ids id (Err i) at (rises ids rising) in (
      λ yes. cc yes,
      λ (k, lt, is).
          let there : get_or ids k 0 ≡ id = sym (get_or_default_zero ids k id lt) ∙ is in
          elim (below_or_not k i) [
            | inl low ↦ let less : get_or ids k 0 < id = parts.1 k low in absurd (omega arith)
            | inr high ↦ let more : id < get_or ids k 0 = parts.2 k high lt in absurd (omega arith)
          ],
    )

head_is : (row : UserRow) (rows : List UserRow) (id : ℕ) → row.id ≡ id → user_of (row ∷ rows) id ≡ Some row
head_is row rows id same = rw (eq-eqb row.id id same)

head_is_not : (row : UserRow) (rows : List UserRow) (id : ℕ) → row.id ≢ id → user_of (row ∷ rows) id ≡ user_of rows id
head_is_not row rows id other = rw (ne_eqb row.id id other)

-- where no two rows have one id, the row of an id is the one that is found
user_of-at : (users : List UserRow) (id i : ℕ) (d : UserRow) → AllPairs (λ (a b : UserRow). a.id < b.id) users → i < length users → (get_or users i d).id ≡ id
    → user_of users id ≡ Some (get_or users i d)
user_of-at [] id i d apart lt is = absurd (omega (arith, lt))
user_of-at (row ∷ rows) id zero d apart lt is = head_is row rows id is
user_of-at (row ∷ rows) id (suc i) d apart lt is =
    let below : row.id < (get_or rows i d).id = apart 0 (suc i) d (omega arith) lt in
    let other : row.id ≢ id = λ same. omega (arith, below, is, same) in
    head_is_not row rows id other ∙ user_of-at rows id i d (λ j k e low high. apart (suc j) (suc k) e (omega arith) (omega arith)) (omega arith) is

user_of-none : (users : List UserRow) (id : ℕ) → ((k : ℕ) (d : UserRow) → k < length users → (get_or users k d).id ≢ id) → user_of users id ≡ None
user_of-none [] id none = refl
user_of-none (row ∷ rows) id none = head_is_not row rows id (none 0 row (omega arith)) ∙ user_of-none rows id (λ k d lt. none (suc k) d (omega arith))

-- users whose ids rise, two by two
abbrev Rise : List UserRow → Type 0
Rise users = AllPairs (λ (a b : UserRow). a.id < b.id) users

Rise-from_ids : (users : List UserRow) → IsStrictlyIncreasing (ids_of_users users) → Rise users
Rise-from_ids users rising i j d low high =
    let by_id : UserRow → ℕ = λ (row : UserRow). row.id in
    let lt : j < length (ids_of_users users) = rw (length-map users by_id) high in
    let less : get_or (ids_of_users users) i 0 < get_or (ids_of_users users) j 0 = AllPairs-from_increasing (ids_of_users users) rising i j 0 low lt in
    let at_i : get_or (ids_of_users users) i 0 ≡ (get_or users i d).id = get_or-map by_id users i d 0 (omega arith) in
    let at_j : get_or (ids_of_users users) j 0 ≡ (get_or users j d).id = get_or-map by_id users j d 0 high in
    omega (arith, less, at_i, at_j)

not_less : (a b : ℕ) → b < a → is_lt (nat_cmp a b) ≡ false
not_less a b above = ap is_lt (sym (nat_cmp_is a b Greater above))

equal-same : (a b : ℕ) → a ≡ b → nat_cmp a b ≡ Equal
equal-same a b same = sym (nat_cmp_is a b Equal same)

same-equal : (a b : ℕ) → nat_cmp a b ≡ Equal → a ≡ b
same-equal a b equal = elim (below_or_not a b) [
  | inl low ↦ let less = nat_cmp_is a b Less low in absurd (cc (less, equal))
  | inr high ↦ elim (below_or_not b a) [
    | inl above ↦ let greater = nat_cmp_is a b Greater above in absurd (cc (greater, equal))
    | inr still ↦ omega arith
  ]
]

sorted_by_id : (users : List UserRow) → Rise users → IsSortedBy (λ (a b : UserRow). is_lt (nat_cmp a.id b.id)) users
sorted_by_id users rise k d low high = not_less _ _ (rise k (k + 1) d (omega arith) high)

-- the user of an id is found by halves just where there is one
pub user_of-searched : (users : List UserRow) (id : ℕ) (found : Result ℕ ℕ) → IsStrictlyIncreasing (ids_of_users users) → IsSearchInRange found (length users)
    → IsBinarySearchResult (λ (row : UserRow). nat_cmp row.id id) users found
    → MatchResult found (λ i. (d : UserRow) → user_of users id ≡ Some (get_or users i d)) (λ _. user_of users id ≡ None)
user_of-searched users id (Ok i) rising bound at = λ d. user_of-at users id i d (Rise-from_ids users rising) bound (same-equal _ _ (at d))
user_of-searched users id (Err i) rising bound parts =
    let split = parts (searchable_from_sorted nat_cmp_total (λ (row : UserRow). row.id) users id (sorted_by_id users (Rise-from_ids users rising))) in
    user_of-none users id (λ k d lt same.
    let equal = equal-same (get_or users k d).id id same in
    elim (below_or_not k i) [
      | inl low ↦ let less : nat_cmp (get_or users k d).id id ≡ Less = split.0 k d (omega arith) low in absurd (cc (less, equal))
      | inr high ↦ let greater : nat_cmp (get_or users k d).id id ≡ Greater = split.1 k d high lt in absurd (cc (greater, equal))
    ])
