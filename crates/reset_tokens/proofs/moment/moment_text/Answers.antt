use Rattle.std.proofs.Common.{◌∙◌, arith}
use Rattle.std.proofs.lemmas.Result.{IfOk-weaker}
use Rattle.reset_tokens.proofs.MomentLemmas.{shown_text}
use Rattle.reset_tokens.proofs.moment.moment_text.Goals as goal

pub returns : goal.returns
returns c =
    let text = shown_text c.args.moment c.shown_at-shown.result (omega arith) c.shown_at-shown.ensures in
    let written = rw (c.date.ensures, c.time.ensures) at c.format.ensures.ok in
    IfOk-weaker c.format.result _ _ (λ s same. same ∙ text) written
