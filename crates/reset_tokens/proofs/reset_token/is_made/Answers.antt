use Rattle.std.proofs.Common.{arith, sym, ◌∙◌}
use Rattle.std.proofs.lemmas.Bool.{false≢true, iff_false}
use Rattle.reset_tokens.proofs.ResetTokenLemmas.{cut_is_made, made_is_cut, uncut_unmade}
use Rattle.reset_tokens.proofs.reset_token.is_made.Goals as goal

pub returns-in_default : goal.returns-in_default
returns-in_default c = (λ is. absurd (false≢true is), λ made. absurd (uncut_unmade _ _ _ _ c.in_default.ensures.cut made))

pub returns-then-not-same : goal.returns-then-not-same
returns-then-not-same c =
    let numeral = c.as_bytes-2.ensures.value ∙ c.as_str.ensures ∙ c.in_ok-numeral.ensures in (
      λ is. absurd (false≢true is),
      λ made.
          let parts = made_is_cut _ _ _ _ _ _ _ c.in-Some.ensures.cut c.in_ok-text.ensures made in
          absurd (iff_false c.same.ensures c.if-not-same.true (c.as_bytes.ensures.value ∙ parts.0 ∙ sym numeral)),
    )

pub returns : goal.returns
returns c =
    let numeral = c.as_bytes-2.ensures.value ∙ c.as_str.ensures ∙ c.in_ok-numeral.ensures in
    let digits = sym c.as_bytes.ensures.value ∙ c.same.ensures.0 c.if-not-same.false ∙ numeral in
    let text = c.as_str-2.ensures.value ∙ c.in_ok-text.ensures in (
      λ is. cut_is_made _ _ _ _ _ _ _ (omega arith) c.in-Some.ensures.cut text digits (c.is_marked.ensures.0 is),
      λ made. c.is_marked.ensures.1 (made_is_cut _ _ _ _ _ _ _ c.in-Some.ensures.cut text made).1,
    )
