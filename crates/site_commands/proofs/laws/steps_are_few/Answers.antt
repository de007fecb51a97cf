use Rattle.site_commands.proofs.ScriptLemmas.{steps_are_few}
use Rattle.site_commands.proofs.laws.steps_are_few.Goals as goal

pub returns : goal.returns
returns c = steps_are_few
