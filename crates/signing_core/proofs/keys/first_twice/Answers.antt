use Rattle.std.proofs.Common.{◌∷◌, ◌≡◌, [], get_or, take, subst, sym, ◌∙◌}
use Rattle.std.proofs.lemmas.List.{get_or_default, take_all}
use Rattle.std.proofs.lemmas.Bool.{iff_false}
use Rattle.std.specs.List.{Contains}
use Rattle.crypto_text.specs.TextList.{AreDifferent}
use Rattle.signing_core.proofs.KeysLemmas.{AreDifferent-one_more, IsFirstTwice-behind}
use Rattle.signing_core.proofs.keys.first_twice.Goals as goal

pub returns-then-is_earlier : goal.returns-then-is_earlier
returns-then-is_earlier c =
    let here : c.items.result.now ≡ get_or c.args.fallbacks.now c.loop-i.i [] = c.items.ensures ∙ c.index-fallbacks-i.is ∙ get_or_default _ _ _ _ c.loop-i-test.true in
    IsFirstTwice-behind _ _ _ c.loop-i-test.true c.loop-i.invariant
    (subst (Contains (c.args.first.now ∷ take c.loop-i.i c.args.fallbacks.now)) here (c.is_earlier.ensures.0 c.if-is_earlier.true))

pub loop-i-preserved : goal.loop-i-preserved
loop-i-preserved c =
    let here : c.items.result.now ≡ get_or c.args.fallbacks.now c.loop-i.i [] = c.items.ensures ∙ c.index-fallbacks-i.is ∙ get_or_default _ _ _ _ c.loop-i-test.true in
    AreDifferent-one_more _ _ _ c.loop-i-test.true c.loop-i.invariant
    (λ found. iff_false c.is_earlier.ensures c.if-is_earlier.false (subst (Contains (c.args.first.now ∷ take c.loop-i.i c.args.fallbacks.now)) (sym here) found))

pub returns : goal.returns
returns c = subst (λ keys. AreDifferent (c.args.first.now ∷ keys)) (take_all _ _ c.loop-i-test.false) c.loop-i.invariant
