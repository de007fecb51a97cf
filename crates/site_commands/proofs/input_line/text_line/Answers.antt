use Rattle.std.proofs.Common.{Some, ap, sym, ◌∙◌, arith}
use Rattle.site_commands.proofs.LineLemmas.{text_line-bytes, text_line-some}
use Rattle.site_commands.proofs.input_line.text_line.Goals as goal

pub returns-in-Ok : goal.returns-in-Ok
returns-in-Ok c =
    text_line-some c.args.line.now (grind arith) c.in-Ok.ensures.cases.1 ∙ sym (ap (λ text. Some text) c.in-Ok.ensures.cases.0)

pub returns-in-Err : goal.returns-in-Err
returns-in-Err c = text_line-bytes c.args.line.now c.in-Err.ensures.cases.0
