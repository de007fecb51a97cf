-- A row that is put among rows in the order of their keys.
use Rattle.std.specs.Prelude.{List, [], ◌∷◌}
use Rattle.std.specs.Ordering.{match_ordering}
use Rattle.std.specs.declared.cmp.Ordering.{Ordering}

-- the rows with one more, or with it in place of the row of its key, by how the keys of two rows compare
abbrev pub put_by : {R : Type 0} → (R → R → Ordering) → List R → R → List R
put_by cmp [] row = row ∷ []
put_by cmp (first ∷ rest) row = match_ordering (cmp first row) (first ∷ put_by cmp rest row) (row ∷ rest) (row ∷ first ∷ rest)
