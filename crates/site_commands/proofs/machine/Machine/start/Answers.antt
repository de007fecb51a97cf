use Rattle.site_commands.proofs.ScriptLemmas.{steps_are_proper}
use Rattle.site_commands.proofs.machine.Machine.start.Goals as goal

pub returns-clause-proper : goal.returns-clause-proper
returns-clause-proper c = steps_are_proper c.args.task c.requires
