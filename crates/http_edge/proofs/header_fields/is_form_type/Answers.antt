use Rattle.std.proofs.Common.{◌≡◌, ◌==◌, ℕ, List, sym, ap, ◌∙◌, codes}
use Rattle.std.specs.List.{before_first}
use Rattle.http_edge.specs.HeaderFields.{is_form, same_but_case}
use Rattle.http_edge.proofs.Texts.{as_text-text, as_text-none}
use Rattle.http_edge.proofs.header_fields.is_form_type.Goals as goal

pub returns-in-Ok : goal.returns-in-Ok
returns-in-Ok c =
    let text : c.in-Ok.text.now ≡ c.args.value.now = c.in-Ok.ensures.cases.0 in
    let type : c.up_to_semicolon.result.now ≡ before_first (λ b. b == 59) c.args.value.now =
    c.up_to_semicolon.ensures ∙ ap (before_first (λ b. b == 59)) text in
    let same : c.same_text.result ≡ same_but_case (before_first (λ b. b == 59) c.args.value.now) (codes "application/x-www-form-urlencoded") =
    c.same_text.ensures ∙ ap (λ (t : List ℕ). same_but_case t (codes "application/x-www-form-urlencoded")) (c.as_bytes.ensures.value ∙ type) in
    same ∙ ap is_form (sym (as_text-text c.args.value.now c.in-Ok.ensures.cases.1))

pub returns-in-Err : goal.returns-in-Err
returns-in-Err c = ap is_form (sym (as_text-none c.args.value.now c.in-Err.ensures.cases.0))
