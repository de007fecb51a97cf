use Rattle.std.proofs.Common.{List, ℕ, rules}
use Rattle.std.specs.Cmp.Lexicographic.{slice_cmp}
use Rattle.std.specs.Ordering.{nat_cmp}
use Rattle.std.proofs.lemmas.Cmp.{nat_list_cmp_total}
use Rattle.std.proofs.lemmas.Fn.{always_returns_same}
use Rattle.std.proofs.lemmas.Map.Lookups.{exact_bytes}
use Rattle.permissions.proofs.SearchLemmas.{Contains-searched}
use Rattle.permissions.proofs.permission_set.is_among.Goals as goal

-- the closure compares a name with the wanted one
pub returns : goal.returns
returns c =
    let by_name = c.binary_search_by.ensures.position (λ (name : List ℕ). slice_cmp nat_cmp name c.args.wanted.now) (always_returns_same _ _ _ (λ a r f' called. search rules)) in
    rw c.is_ok.ensures.value (Contains-searched (slice_cmp nat_cmp) nat_list_cmp_total exact_bytes c.args.names.now c.args.wanted.now _ c.requires c.binary_search_by.ensures.bound by_name)
