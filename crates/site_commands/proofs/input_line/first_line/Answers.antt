use Rattle.std.proofs.Common.{◌≡◌, ◌∙◌, ap, sym, take}
use Rattle.site_commands.proofs.LineLemmas.{front-all, front-some}
use Rattle.site_commands.proofs.input_line.first_line.Goals as goal

pub returns-in-Some : goal.returns-in-Some
returns-in-Some c = sym (front-some c.args.input.now c.in-Some.end (sym c.newline_in.ensures ∙ c.in-Some.is))

pub returns-in-None : goal.returns-in-None
returns-in-None c = sym (front-all c.args.input.now (sym c.newline_in.ensures ∙ c.in-None.is))
