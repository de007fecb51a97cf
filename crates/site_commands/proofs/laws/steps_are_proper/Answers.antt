use Rattle.site_commands.proofs.ScriptLemmas.{steps_are_proper}
use Rattle.site_commands.proofs.laws.steps_are_proper.Goals as goal

pub returns : goal.returns
returns c = steps_are_proper
