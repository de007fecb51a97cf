use Rattle.std.proofs.Common.{sym, ap, ◌∙◌, lit<}
use Rattle.std.proofs.lemmas.Str.Pattern.{split_once_first}
use Rattle.crypto_text.specs.WhiteSpace.{trimmed}
use Rattle.cookie_text.proofs.CookieHeaderLemmas.{name_part-cut, name_part-whole, value_part-cut, value_part-whole}
use Rattle.cookie_text.proofs.cookie_header.parts_of.Goals as goal

pub returns-in-Some-clause-name : goal.returns-in-Some-clause-name
returns-in-Some-clause-name c =
    let parts = rw c.in-Some.is at (split_once_first 61 c.args.piece.now c.split_once.result c.split_once.ensures.cases (lit< tt)) in
    c.trimmed.ensures ∙ ap trimmed (parts.1 ∙ sym (name_part-cut c.args.piece.now parts.0))

pub returns-in-Some-clause-value : goal.returns-in-Some-clause-value
returns-in-Some-clause-value c =
    let parts = rw c.in-Some.is at (split_once_first 61 c.args.piece.now c.split_once.result c.split_once.ensures.cases (lit< tt)) in
    c.trimmed-in-Some.ensures ∙ ap trimmed (parts.2 ∙ sym (value_part-cut c.args.piece.now parts.0))

pub returns-in-None-clause-name : goal.returns-in-None-clause-name
returns-in-None-clause-name c =
    let whole = rw c.in-None.is at (split_once_first 61 c.args.piece.now c.split_once.result c.split_once.ensures.cases (lit< tt)) in
    sym (ap trimmed (name_part-whole c.args.piece.now whole))

pub returns-in-None-clause-value : goal.returns-in-None-clause-value
returns-in-None-clause-value c =
    let whole = rw c.in-None.is at (split_once_first 61 c.args.piece.now c.split_once.result c.split_once.ensures.cases (lit< tt)) in
    c.trimmed-in-None.ensures ∙ ap trimmed (sym (value_part-whole c.args.piece.now whole))
