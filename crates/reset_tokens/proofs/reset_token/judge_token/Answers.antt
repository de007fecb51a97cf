use Rattle.std.proofs.Common.{◌∙◌, sym}
use Rattle.std.proofs.lemmas.Bool.{iff_false}
use Rattle.reset_tokens.proofs.TokenVerdictLemmas.{verdict-made, verdict-mismatch, verdict-shape}
use Rattle.reset_tokens.proofs.reset_token.judge_token.Goals as goal

pub returns-in_default-clause-value : goal.returns-in_default-clause-value
returns-in_default-clause-value c = sym (verdict-shape _ _ _ _ c.in_default.ensures)

pub returns-then-not-made-clause-value : goal.returns-then-not-made-clause-value
returns-then-not-made-clause-value c = sym (verdict-mismatch _ _ _ _ _ c.in-Some.ensures (iff_false c.in_ok-made.ensures c.if-not-made.true))

pub returns-clause-value : goal.returns-clause-value
returns-clause-value c = c.verdict_by_age.ensures ∙ sym (verdict-made _ _ _ _ _ c.in-Some.ensures (c.in_ok-made.ensures.0 c.if-not-made.false))
