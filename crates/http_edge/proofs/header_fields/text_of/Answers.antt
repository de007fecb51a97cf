use Rattle.std.proofs.Common.{Some, ap, sym, ◌∙◌}
use Rattle.http_edge.proofs.Texts.{as_text-text, as_text-none}
use Rattle.http_edge.proofs.header_fields.text_of.Goals as goal

pub returns-in_ok-of-in-Ok : goal.returns-in_ok-of-in-Ok
returns-in_ok-of-in-Ok c =
    ap (λ text. Some text) (c.in_ok-of-in-Ok.ensures ∙ c.in-Ok.ensures.cases.0) ∙ sym (as_text-text c.args.bytes.now c.in-Ok.ensures.cases.1)

pub returns-in-Err : goal.returns-in-Err
returns-in-Err c = sym (as_text-none c.args.bytes.now c.in-Err.ensures.cases.0)
