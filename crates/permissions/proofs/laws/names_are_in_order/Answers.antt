use Rattle.std.specs.Cmp.Lexicographic.{slice_cmp}
use Rattle.std.specs.List.Sorted.{IsStrictlySortedBy}
use Rattle.std.specs.Ordering.{nat_cmp}
use Rattle.std.proofs.lemmas.Cmp.{nat_list_cmp_total}
use Rattle.std.proofs.lemmas.Map.Lookups.{exact_bytes}
use Rattle.std.proofs.Common.{[]}
use Rattle.permissions.specs.PermissionSet.{in_order}
use Rattle.permissions.proofs.OrderLemmas.{Contains-fold, sorted-fold}
use Rattle.permissions.proofs.laws.names_are_in_order.Goals as goal

pub returns : goal.returns
unfolding in_order IsStrictlySortedBy
returns c = λ names. record {
  ascending = sorted-fold (slice_cmp nat_cmp) nat_list_cmp_total [] names tt;
  same_names = Contains-fold (slice_cmp nat_cmp) exact_bytes names;
}
