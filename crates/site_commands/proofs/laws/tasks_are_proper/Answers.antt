use Rattle.site_commands.proofs.ScriptLemmas.{tasks_are_proper}
use Rattle.site_commands.proofs.laws.tasks_are_proper.Goals as goal

pub returns : goal.returns
returns c = tasks_are_proper
