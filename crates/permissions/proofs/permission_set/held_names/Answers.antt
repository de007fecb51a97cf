use Rattle.std.proofs.Common.{ℕ, subst, sym, ◌∙◌}
use Rattle.std.specs.Cmp.Lexicographic.{slice_cmp}
use Rattle.std.specs.Ordering.{nat_cmp}
use Rattle.std.specs.List.Sorted.{IsStrictlySortedBy}
use Rattle.std.proofs.lemmas.List.Sorted.{IsNonDecreasingBy-from_sort}
use Rattle.permissions.specs.PermissionSet.{holder_row, is_held}
use Rattle.permissions.proofs.PermissionSetLemmas.{ascending-names_of, is_held-permutation, names_of-same}
use Rattle.permissions.proofs.permission_set.held_names.Goals as goal

pub names_among-requires : goal.names_among-requires
names_among-requires c = rw c.deref.ensures.value (IsNonDecreasingBy-from_sort (λ (id : ℕ). id) _ c.sort_unstable.ensures.sorted)

pub returns-clause-names : goal.returns-clause-names
returns-clause-names c =
    let user = holder_row c.args.user.now in
    let sorted = c.sort_unstable.new.self.items in
    let same = names_of-same (is_held user sorted) (is_held user c.args.ids.items) (is_held-permutation user c.args.ids.items sorted c.sort_unstable.ensures.permutation) c.args.perms.now in
    (rw c.deref.ensures.value at c.in_ok-names.ensures) ∙ same

pub returns-clause-ascending : goal.returns-clause-ascending
returns-clause-ascending c = subst (IsStrictlySortedBy (slice_cmp nat_cmp)) (sym c.in_ok-names.ensures) (ascending-names_of (is_held (holder_row c.args.user.now) c.deref.result.now) c.args.perms.now)
