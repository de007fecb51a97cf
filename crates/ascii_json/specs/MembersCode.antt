-- How the logic stores the members of an object: as a tree of numbers that gives them back. A type that is seen as
-- members takes `members_code` as its `coded`.
use Rattle.std.specs.Prelude.{◌≡◌, ℕ, ◌==◌, pos, negsuc, List, [], ◌∷◌, true, false, cond, slice_index, refl}
use base.Stored.{Coded, Gv, gnil, gnum, gcons, num}
use mathlib.Core.Path.{sym, ap, ◌∙◌}
use lib.Ieee.{nan, inf, fin}
use Rattle.serde_json.specs.Data.{Num, unsigned, negative, float, Data, null, boolean, number, string, array, object, Items, no_items, item, Members, no_members, member}

-- ---- numbers

abbrev list_of_number : Num → List ℕ
list_of_number (unsigned n) = 0 ∷ n ∷ []
list_of_number (negative (pos n)) = 1 ∷ n ∷ []
list_of_number (negative (negsuc n)) = 2 ∷ n ∷ []
list_of_number (float nan) = 3 ∷ []
list_of_number (float (inf true)) = 4 ∷ []
list_of_number (float (inf false)) = 5 ∷ []
list_of_number (float (fin true m (pos e))) = 6 ∷ m ∷ e ∷ []
list_of_number (float (fin true m (negsuc e))) = 7 ∷ m ∷ e ∷ []
list_of_number (float (fin false m (pos e))) = 8 ∷ m ∷ e ∷ []
list_of_number (float (fin false m (negsuc e))) = 9 ∷ m ∷ e ∷ []

abbrev number_at : ℕ → ℕ → ℕ → Num
number_at kind m e =
    cond (kind == 0) (unsigned m) (cond (kind == 1) (negative (pos m)) (cond (kind == 2) (negative (negsuc m)) (cond (kind == 3) (float nan)
    (cond (kind == 4) (float (inf true)) (cond (kind == 5) (float (inf false)) (cond (kind == 6) (float (fin true m (pos e))) (cond (kind == 7) (float (fin true m (negsuc e)))
    (cond (kind == 8) (float (fin false m (pos e))) (float (fin false m (negsuc e)))))))))))

abbrev number_of_list : List ℕ → Num
number_of_list s = number_at (slice_index s 0) (slice_index s 1) (slice_index s 2)

pub number_back : (n : Num) → number_of_list (list_of_number n) ≡ n
number_back (unsigned n) = refl
number_back (negative (pos n)) = refl
number_back (negative (negsuc n)) = refl
number_back (float nan) = refl
number_back (float (inf true)) = refl
number_back (float (inf false)) = refl
number_back (float (fin true m (pos e))) = refl
number_back (float (fin true m (negsuc e))) = refl
number_back (float (fin false m (pos e))) = refl
number_back (float (fin false m (negsuc e))) = refl

-- ---- trees

abbrev tree_of_list : List ℕ → Gv
tree_of_list [] = gnil
tree_of_list (x ∷ xs) = gcons (gnum x) (tree_of_list xs)

abbrev list_of_tree : Gv → List ℕ
list_of_tree gnil = []
list_of_tree (gnum n) = []
list_of_tree (gcons a b) = num a ∷ list_of_tree b

pub list_back : (xs : List ℕ) → list_of_tree (tree_of_list xs) ≡ xs
list_back [] = refl
list_back (x ∷ xs) = ap (λ rest. x ∷ rest) (list_back xs)

abbrev mutual
  tree_of_data : Data → Gv
  tree_of_data null = gnil
  tree_of_data (boolean true) = gnum 0
  tree_of_data (boolean false) = gnum 1
  tree_of_data (number n) = gcons (gnum 0) (tree_of_list (list_of_number n))
  tree_of_data (string s) = gcons (gnum 1) (tree_of_list s)
  tree_of_data (array ds) = gcons (gnum 2) (tree_of_items ds)
  tree_of_data (object ms) = gcons (gnum 3) (tree_of_members ms)

  tree_of_items : Items → Gv
  tree_of_items no_items = gnil
  tree_of_items (item d ds) = gcons (tree_of_data d) (tree_of_items ds)

  tree_of_members : Members → Gv
  tree_of_members no_members = gnil
  tree_of_members (member k d ms) = gcons (gcons (tree_of_list k) (tree_of_data d)) (tree_of_members ms)

-- what a tree may be read as
abbrev Readings : Type 0
Readings = Data × Items × (List ℕ × Data) × Members

abbrev data_at : ℕ → Num → List ℕ → Items → Members → Data
data_at kind n s ds ms = cond (kind == 0) (number n) (cond (kind == 1) (string s) (cond (kind == 2) (array ds) (object ms)))

abbrev readings : Gv → Readings
readings gnil = (null, no_items, ([], null), no_members)
readings (gnum n) = (boolean (n == 0), no_items, ([], null), no_members)
readings (gcons a b) = (
  data_at (num a) (number_of_list (list_of_tree b)) (list_of_tree b) (readings b).1 (readings b).3,
  item (readings a).0 (readings b).1,
  (list_of_tree a, (readings b).0),
  member (readings a).2.0 (readings a).2.1 (readings b).3,
)

mutual
  data_back : (d : Data) → (readings (tree_of_data d)).0 ≡ d
  data_back null = refl
  data_back (boolean true) = refl
  data_back (boolean false) = refl
  data_back (number n) = ap (λ xs. number (number_of_list xs)) (list_back (list_of_number n)) ∙ ap number (number_back n)
  data_back (string s) = ap string (list_back s)
  data_back (array ds) = ap array (items_back ds)
  data_back (object ms) = ap object (members_back ms)

  items_back : (ds : Items) → (readings (tree_of_items ds)).1 ≡ ds
  items_back no_items = refl
  items_back (item d ds) = λ i. item (data_back d i) (items_back ds i)

  pub members_back : (ms : Members) → (readings (tree_of_members ms)).3 ≡ ms
  members_back no_members = refl
  members_back (member k d ms) = λ i. member (list_back k i) (data_back d i) (members_back ms i)

abbrev pub members_code : Coded Members
members_code = record {
  code = tree_of_members;
  inj = λ x y same. sym (members_back x) ∙ ap (λ tree. (readings tree).3) same ∙ members_back y;
}
