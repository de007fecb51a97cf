use Rattle.std.proofs.Common.{◌∷◌, ◌≡◌, [], get_or, subst, ◌∙◌}
use Rattle.std.proofs.lemmas.List.{get_or_default, take_all}
use Rattle.std.specs.List.{All}
use Rattle.signing_core.specs.Keys.{HasKeyLength}
use Rattle.signing_core.proofs.KeysLemmas.{All-one_more}
use Rattle.signing_core.proofs.keys.first_of_other_length.Goals as goal

pub loop-i-preserved : goal.loop-i-preserved
loop-i-preserved c =
    let here : c.items.result.now ≡ get_or c.args.fallbacks.now c.loop-i.i [] = c.items.ensures ∙ c.index-fallbacks-i.is ∙ get_or_default _ _ _ _ c.loop-i-test.true in
    All-one_more HasKeyLength _ _ _ c.loop-i-test.true c.loop-i.invariant (subst HasKeyLength here (c.has_key_length-in-loop-i.ensures.0 c.if-not-has_key_length-2.false))

pub returns : goal.returns
returns c = subst (λ keys. All HasKeyLength (c.args.first.now ∷ keys)) (take_all _ _ c.loop-i-test.false) c.loop-i.invariant
