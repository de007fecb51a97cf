use Rattle.std.proofs.Common.{◌≡◌, ◌<◌, [], arith, ap, below_more, get_or, length, refl, sym, ◌∙◌}
use Rattle.std.proofs.lemmas.Bool.{false≢true, iff_false}
use Rattle.std.proofs.lemmas.List.{get_or_default}
use Rattle.reset_tokens.specs.ResetToken.{mac_of_text}
use Rattle.reset_tokens.proofs.reset_token.is_marked.Goals as goal

pub returns-then-is_under_key : goal.returns-then-is_under_key
returns-then-is_under_key c =
    let within : c.loop-at.at < length c.args.keys.now = omega arith in
    (λ is. (c.loop-at.at, c.key.result.now, within, get_or_default _ _ _ [] within ∙ sym c.key.ensures.value, c.is_under_key.ensures.0 c.if-is_under_key.true), λ any. refl)

pub loop-at-preserved : goal.loop-at-preserved
loop-at-preserved c =
    below_more _ _ c.loop-at.invariant
    (λ fits. iff_false c.is_under_key.ensures c.if-is_under_key.false (fits ∙ ap (mac_of_text c.args.text.now) (sym c.key.ensures.value)))

pub returns : goal.returns
returns c = (
  λ is. absurd (false≢true is),
  λ any.
      let here : get_or c.args.keys.now any.0 [] ≡ any.1 = get_or_default _ _ _ any.1 any.2 ∙ any.3 in
      absurd (c.loop-at.invariant any.0 (omega (arith, any.2)) (any.4 ∙ ap (mac_of_text c.args.text.now) (sym here))),
)
