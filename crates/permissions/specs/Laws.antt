-- What a set of permissions is, whatever order its rows came in.
use Rattle.std.specs.Prelude.{◌↔◌, ℕ, List, Contains}
use Rattle.std.specs.Cmp.Lexicographic.{slice_cmp}
use Rattle.std.specs.List.Sorted.{IsStrictlySortedBy}
use Rattle.std.specs.Ordering.{nat_cmp}
use Rattle.permissions.specs.PermissionSet.{in_order}

-- the names ascend in byte order, so each stands once, and they are just the names put in
pub record IsInOrder (names : List (List ℕ)) : Type 0 where
  pub ascending : IsStrictlySortedBy (slice_cmp nat_cmp) (in_order names)
  pub same_names : (name : List ℕ) → Contains (in_order names) name ↔ Contains names name

abbrev pub NamesAreInOrder : Type 0
NamesAreInOrder = (names : List (List ℕ)) → IsInOrder names
