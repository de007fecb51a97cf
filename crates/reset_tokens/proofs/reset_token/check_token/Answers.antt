use Rattle.std.proofs.Common.{◌∙◌, sym}
use Rattle.reset_tokens.proofs.TokenVerdictLemmas.{verdict_is_exact}
use Rattle.reset_tokens.specs.ResetToken.{row_of}
use Rattle.reset_tokens.proofs.reset_token.check_token.Goals as goal

pub returns-clause-ok : goal.returns-clause-ok
returns-clause-ok c = λ some.
    let exact = verdict_is_exact (row_of c.args.user.now) c.args.keys.now c.args.token.now c.args.now in
    let is = c.in_ok-verdict.ensures.value in (
      λ ok. exact.valid.0 (sym is ∙ c.accepted.ensures.ok.0 ok),
      λ valid. c.accepted.ensures.ok.1 (is ∙ exact.valid.1 valid),
    )

pub returns-clause-shape : goal.returns-clause-shape
returns-clause-shape c =
    let exact = verdict_is_exact (row_of c.args.user.now) c.args.keys.now c.args.token.now c.args.now in
    let is = c.in_ok-verdict.ensures.value in (
      λ refused. exact.shape.0 (sym is ∙ c.accepted.ensures.shape.0 refused),
      λ none. c.accepted.ensures.shape.1 (is ∙ exact.shape.1 none),
    )

pub returns-clause-mismatch : goal.returns-clause-mismatch
returns-clause-mismatch c = λ some.
    let exact = verdict_is_exact (row_of c.args.user.now) c.args.keys.now c.args.token.now c.args.now in
    let is = c.in_ok-verdict.ensures.value in (
      λ refused. exact.mismatch.0 (sym is ∙ c.accepted.ensures.mismatch.0 refused),
      λ other. c.accepted.ensures.mismatch.1 (is ∙ exact.mismatch.1 other),
    )

pub returns-clause-expired : goal.returns-clause-expired
returns-clause-expired c = λ some age.
    let exact = verdict_is_exact (row_of c.args.user.now) c.args.keys.now c.args.token.now c.args.now in
    let is = c.in_ok-verdict.ensures.value in (
      λ refused. (exact.expired age).0 (sym is ∙ (c.accepted.ensures.expired age).0 refused),
      λ old. (c.accepted.ensures.expired age).1 (is ∙ (exact.expired age).1 old),
    )
