use Rattle.account_views.proofs.KeyLemmas.{keys_are_drawn}
use Rattle.account_views.proofs.laws.keys_are_drawn.Goals as goal

pub returns : goal.returns
returns c = keys_are_drawn
