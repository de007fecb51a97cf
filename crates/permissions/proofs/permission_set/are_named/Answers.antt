use Rattle.std.proofs.Common.{Contains, refl, subst, sym, ◌∙◌}
use Rattle.std.proofs.lemmas.List.{take_all}
use Rattle.std.proofs.lemmas.List.Elements.{All-get_or, All-more, All-same}
use Rattle.permissions.proofs.permission_set.are_named.Goals as goal

pub returns-then-not-is_named : goal.returns-then-not-is_named
returns-then-not-is_named c =
    let named = Contains c.args.names.now in
    let items = c.items-perm-items.result.now in (
      λ yes. absurd (cc yes),
      λ all.
          let here = All-get_or named items c.loop-perm.perm-index c.perm-item.result c.loop-perm-test.true (All-same named _ _ c.items-perm-items.ensures all) in
          let listed = subst named (sym (c.as_str.ensures ∙ c.perm-item.is)) here in
          let yes = c.is_named.ensures.1 listed in
          let no = c.if-not-is_named.true in
          cc (yes, no),
    )

pub loop-perm-preserved : goal.loop-perm-preserved
loop-perm-preserved c =
    let named = Contains c.args.names.now in
    let items = c.items-perm-items.result.now in
    let listed = c.is_named.ensures.0 c.if-not-is_named.false in
    All-more named items c.loop-perm.perm-index c.perm-item.result c.loop-perm-test.true c.loop-perm.invariant (subst named (c.as_str.ensures ∙ c.perm-item.is) listed)

pub returns : goal.returns
returns c =
    let named = Contains c.args.names.now in
    let items = c.items-perm-items.result.now in (
      λ _. All-same named _ _ (sym (take_all c.loop-perm.perm-index items c.loop-perm-test.false ∙ c.items-perm-items.ensures)) c.loop-perm.invariant,
      λ _. refl,
    )
