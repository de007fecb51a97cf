use Rattle.account_views.proofs.ProperScripts.{steps_are_proper}
use Rattle.account_views.proofs.laws.steps_are_proper.Goals as goal

pub returns : goal.returns
returns c = steps_are_proper
