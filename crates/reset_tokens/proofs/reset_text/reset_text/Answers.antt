use Rattle.std.proofs.Common.{◌∙◌, append_assoc}
use Rattle.std.proofs.lemmas.Result.{IfOk-weaker}
use Rattle.reset_tokens.specs.ResetToken.{reset_text}
use Rattle.reset_tokens.proofs.reset_text.reset_text.Goals as goal

pub returns : goal.returns
unfolding reset_text
returns c =
    let written = rw c.in_ok-login.ensures at c.format.ensures.ok in
    IfOk-weaker c.format.result _ _ (λ s same. same ∙ (simp append_assoc)) written
