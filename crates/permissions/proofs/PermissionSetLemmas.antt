-- Names in byte order, one row after another.
use Rattle.std.proofs.Common.{◌≡◌, ℕ, ◌+◌, ◌<◌, ◌&&◌, ◌||◌, Bool, true, false, cond, nat_eq, IsTrue, List, [], ◌∷◌, ◌++◌, map, length, get_or, take, drop, refl, sym, ap, ◌∙◌}
use Rattle.std.specs.List.{filter, flat_map, fold, starts_with}
use Rattle.std.specs.List.Sorted.{IsPermutation, IsStrictlySortedBy}
use Rattle.std.specs.BTreeSet.{insert_key}
use Rattle.std.specs.Cmp.Lexicographic.{slice_cmp}
use Rattle.std.specs.Ordering.{nat_cmp}
use Rattle.std.proofs.lemmas.Bool.Decides.{Decides-eqb}
use Rattle.std.proofs.lemmas.List.Prefix.{front_rest}
use Rattle.std.proofs.lemmas.Slice.Eq.{starts_is}
use Rattle.std.proofs.lemmas.List.{append-nil, map-append}
use Rattle.std.proofs.lemmas.List.Elements.{filter_more}
use Rattle.std.proofs.lemmas.List.Sums.{fold_push}
use Rattle.std.proofs.lemmas.Cmp.{nat_list_cmp_total}
use Rattle.std.proofs.lemmas.Grind.{flat_map-append}
use Rattle.std.proofs.lemmas.List.Sorted.{list_any-IsPermutation}
use Rattle.permissions.specs.declared.rows.GroupRow.{GroupRow}
use Rattle.permissions.specs.declared.rows.PermRow.{PermRow}
use Rattle.permissions.specs.PermissionSet.{HolderRow, IsOfApp, ids_of_groups, in_order, is_held, is_listed, name_of, names_of}
use Rattle.permissions.proofs.OrderLemmas.{sorted-fold}

-- no rows have no names
pub names_of-nil : (test : PermRow → Bool) → names_of test [] ≡ []
unfolding in_order
names_of-nil test = refl

map-cond : (row : PermRow) (passes : Bool) → map name_of (cond passes (row ∷ []) []) ≡ cond passes (name_of row ∷ []) []
map-cond row true = refl
map-cond row false = refl

after_row : (test : PermRow → Bool) (rows : List PermRow) (i : ℕ) (row : PermRow) (passes : Bool) → i < length rows → get_or rows i row ≡ row → test row ≡ passes
    → map name_of (filter test (take (i + 1) rows)) ≡ map name_of (filter test (take i rows)) ++ cond passes (name_of row ∷ []) []
after_row test rows i row passes lt here is =
    let more = filter_more test rows i row lt in
    let last : cond (test (get_or rows i row)) (get_or rows i row ∷ []) [] ≡ cond passes (row ∷ []) [] = rw (here, is) refl in
    ap (map name_of) (more ∙ ap (λ (rows' : List PermRow). filter test (take i rows) ++ rows') last)
    ∙ map-append name_of (filter test (take i rows)) (cond passes (row ∷ []) []) ∙ ap (λ (names : List (List ℕ)). map name_of (filter test (take i rows)) ++ names) (map-cond row passes)

-- a row that passes adds its name
pub names_of-passed : (test : PermRow → Bool) (rows : List PermRow) (i : ℕ) (row : PermRow) → i < length rows → row ≡ get_or rows i row → test row ≡ true
    → names_of test (take (i + 1) rows) ≡ insert_key (slice_cmp nat_cmp) (names_of test (take i rows)) (name_of row)
unfolding in_order
names_of-passed test rows i row lt here is =
    ap (fold (insert_key (slice_cmp nat_cmp)) []) (after_row test rows i row true lt (sym here) is)
    ∙ fold_push (insert_key (slice_cmp nat_cmp)) [] (map name_of (filter test (take i rows))) (name_of row)

-- another adds none
pub names_of-failed : (test : PermRow → Bool) (rows : List PermRow) (i : ℕ) (row : PermRow) → i < length rows → row ≡ get_or rows i row → test row ≡ false
    → names_of test (take (i + 1) rows) ≡ names_of test (take i rows)
unfolding in_order
names_of-failed test rows i row lt here is =
    ap (fold (insert_key (slice_cmp nat_cmp)) []) (after_row test rows i row false lt (sym here) is ∙ append-nil _)

filter-same : (f g : PermRow → Bool) → ((row : PermRow) → f row ≡ g row) → (rows : List PermRow) → filter f rows ≡ filter g rows
filter-same f g same [] = refl
filter-same f g same (row ∷ rows) = rw (same row, filter-same f g same rows) refl

-- two tests that answer alike pass the same names
pub names_of-same : (f g : PermRow → Bool) → ((row : PermRow) → f row ≡ g row) → (rows : List PermRow) → names_of f rows ≡ names_of g rows
names_of-same f g same rows = ap (λ (passed : List PermRow). in_order (map name_of passed)) (filter-same f g same rows)

-- names in order ascend
pub ascending-names_of : (test : PermRow → Bool) (rows : List PermRow) → IsStrictlySortedBy (slice_cmp nat_cmp) (names_of test rows)
unfolding in_order IsStrictlySortedBy
ascending-names_of test rows = sorted-fold (slice_cmp nat_cmp) nat_list_cmp_total [] (map name_of (filter test rows)) tt

-- the order of the ids is of no account
pub is_held-permutation : (user : HolderRow) (ids sorted : List ℕ) → IsPermutation ids sorted → (row : PermRow) → is_held user sorted row ≡ is_held user ids row
is_held-permutation user ids sorted moved row = ap (λ (listed : Bool). user.active && (user.superuser || listed)) (sym (list_any-IsPermutation (λ id. nat_eq id row.id) ids sorted moved))

-- ---- the ids of groups

flat_map-cond : (group : GroupRow) (passes : Bool) → flat_map (λ (g : GroupRow). g.perms) (cond passes (group ∷ []) []) ≡ cond passes group.perms []
flat_map-cond group true = append-nil group.perms
flat_map-cond group false = refl

-- one group more adds its ids where the user is in it
pub ids_of_groups-more : (user : HolderRow) (groups : List GroupRow) (i : ℕ) (group : GroupRow) (joined : Bool) → i < length groups → group ≡ get_or groups i group
    → is_listed user.groups group.id ≡ joined → ids_of_groups user (take (i + 1) groups) ≡ ids_of_groups user (take i groups) ++ cond joined group.perms []
ids_of_groups-more user groups i group joined lt here is =
    let test = λ (g : GroupRow). is_listed user.groups g.id in
    let more = filter_more test groups i group lt in
    let last : cond (test (get_or groups i group)) (get_or groups i group ∷ []) [] ≡ cond joined (group ∷ []) [] = rw (sym here, is) refl in
    ap (flat_map (λ (g : GroupRow). g.perms)) (more ∙ ap (λ (gs : List GroupRow). filter test (take i groups) ++ gs) last)
    ∙ flat_map-append (λ (g : GroupRow). g.perms) (filter test (take i groups)) (cond joined (group ∷ []) [])
    ∙ ap (λ (ids : List ℕ). ids_of_groups user (take i groups) ++ ids) (flat_map-cond group joined)

-- ---- an app is told by what stands before a dot

-- a name that begins with the app is one of it where a dot follows
pub IsOfApp-rest : (name app rest : List ℕ) (dotted : Bool) → name ≡ app ++ rest → dotted ≡ starts_with nat_eq rest (46 ∷ [])
    → (IsTrue dotted → IsOfApp app name) × (IsOfApp app name → IsTrue dotted)
IsOfApp-rest name app rest dotted front value =
    let dot = starts_is Decides-eqb rest (46 ∷ []) dotted value in (
      λ yes. (drop 1 rest, front ∙ ap (λ (t : List ℕ). app ++ t) (dot.0 yes)),
      λ found. dot.1 found.0 (sym (front_rest name app rest front) ∙ front_rest name app (46 ∷ found.0) found.1),
    )
