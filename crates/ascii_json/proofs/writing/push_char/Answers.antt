use Rattle.std.proofs.Common.{arith, append_assoc}
use Rattle.std.proofs.lemmas.Grind.{common_steps}
use Rattle.ascii_json.specs.Escaping.{escaped_beyond_ascii}
use Rattle.ascii_json.proofs.writing.push_char.Goals as goal

pub returns-then-code-lt127 : goal.returns-then-code-lt127
unfolding escaped_beyond_ascii
returns-then-code-lt127 c = grind (arith, common_steps)

pub returns-then-code-lt65536 : goal.returns-then-code-lt65536
unfolding escaped_beyond_ascii
returns-then-code-lt65536 c = grind (arith, common_steps)

pub returns-in_ok-push_code_unit : goal.returns-in_ok-push_code_unit
unfolding escaped_beyond_ascii
returns-in_ok-push_code_unit c = grind (arith, common_steps, append_assoc)
