use Rattle.std.proofs.Common.{◌≡◌, ◌∙◌, ap, sym, Some, None, List, ℕ, IfSome, take, subst}
use Rattle.site_commands.specs.InputLine.{HasReadLine, line_of}
use Rattle.site_commands.proofs.LineLemmas.{read_whole}
use Rattle.site_commands.proofs.input_line.read_line.Goals as goal

pub returns-in-Some-clause-ok : goal.returns-in-Some-clause-ok
returns-in-Some-clause-ok g c =
    read_whole _ _ c.in_ok-bytes.bytes.items _ c.in_ok-bytes.ensures.ok c.in_ok-bytes.ensures.value
    (ap (λ text. Some text) c.in_ok-of-in-Some.ensures ∙ sym c.in-Some.ensures ∙ ap line_of c.as_slice.ensures.value)

pub returns-clause-ok : goal.returns-clause-ok
returns-clause-ok g c =
    read_whole _ _ c.in_ok-bytes.bytes.items _ c.in_ok-bytes.ensures.ok c.in_ok-bytes.ensures.value
    (sym c.in-None.ensures ∙ ap line_of c.as_slice.ensures.value)
