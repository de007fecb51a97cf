use Rattle.std.proofs.Common.{◌++◌, ℕ, List, ◌∷◌, ap, sym, ◌∙◌}
use Rattle.std.proofs.lemmas.Bool.Decides.{Decides-eqb}
use Rattle.std.proofs.lemmas.Slice.Eq.{strip_prefix_is}
use Rattle.permissions.proofs.PermissionSetLemmas.{IsOfApp-rest}
use Rattle.permissions.proofs.permission_set.is_of_app.Goals as goal

pub returns-in-Some : goal.returns-in-Some
returns-in-Some c =
    let name = c.as_bytes.result.now in
    let app = c.as_bytes-2.result.now in
    let front = rw c.in-Some.is at (strip_prefix_is Decides-eqb name app c.strip_prefix.result c.strip_prefix.ensures.cases) in
    let text = sym c.as_bytes.ensures.value ∙ front ∙ ap (λ (p : List ℕ). p ++ c.in-Some.rest.now) c.as_bytes-2.ensures.value in
    IsOfApp-rest _ _ c.in-Some.rest.now _ text c.starts_with.ensures.value

pub returns-in-None : goal.returns-in-None
returns-in-None c =
    let name = c.as_bytes.result.now in
    let app = c.as_bytes-2.result.now in
    let other = rw c.in-None.is at (strip_prefix_is Decides-eqb name app c.strip_prefix.result c.strip_prefix.ensures.cases) in (
      λ yes. cc yes,
      λ found. absurd (other (46 ∷ found.0) (c.as_bytes.ensures.value ∙ found.1 ∙ ap (λ (p : List ℕ). p ++ 46 ∷ found.0) (sym c.as_bytes-2.ensures.value))),
    )
