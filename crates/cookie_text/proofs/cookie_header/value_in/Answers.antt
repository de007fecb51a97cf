use Rattle.std.proofs.Common.{true, false, refl, sym, ◌∙◌}
use Rattle.std.specs.Str.{bytes_eq}
use Rattle.cookie_text.proofs.CookieHeaderLemmas.{named_value-is}
use Rattle.cookie_text.proofs.cookie_header.value_in.Goals as goal

pub returns-then-is_blank : goal.returns-then-is_blank
returns-then-is_blank c =
    let own = c.parts_of.result.0.now in
    sym (named_value-is c.args.piece.now own c.parts_of.result.1.now c.args.wanted.now true (bytes_eq own c.args.wanted.now)
    c.parts_of.ensures.name c.parts_of.ensures.value (sym c.if-is_blank.true ∙ c.is_blank.ensures) refl)

pub returns-then-eq : goal.returns-then-eq
returns-then-eq c =
    sym (named_value-is c.args.piece.now c.parts_of.result.0.now c.parts_of.result.1.now c.args.wanted.now false true
    c.parts_of.ensures.name c.parts_of.ensures.value (sym c.if-is_blank.false ∙ c.is_blank.ensures) (sym c.if-eq.true ∙ c.eq.ensures))

pub returns : goal.returns
returns c =
    sym (named_value-is c.args.piece.now c.parts_of.result.0.now c.parts_of.result.1.now c.args.wanted.now false false
    c.parts_of.ensures.name c.parts_of.ensures.value (sym c.if-is_blank.false ∙ c.is_blank.ensures) (sym c.if-eq.false ∙ c.eq.ensures))
