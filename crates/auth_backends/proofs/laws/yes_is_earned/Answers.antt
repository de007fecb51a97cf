use Rattle.auth_backends.proofs.AuthenticationLemmas as lemmas
use Rattle.auth_backends.proofs.laws.yes_is_earned.Goals as goal

pub returns : goal.returns
returns c = lemmas.yes_is_earned
