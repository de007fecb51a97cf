use Rattle.std.proofs.Common.{inl, inr}
use Rattle.permissions.proofs.permission_set.has_perms.Goals as goal

pub returns-else-all : goal.returns-else-all
returns-else-all c =
    let asked = rw c.names.ensures.names at c.are_named.ensures in (
      λ yes. inr (asked.0 yes),
      λ has. elim has [ inl all ↦ absurd (cc all) | inr named ↦ asked.1 named ],
    )
