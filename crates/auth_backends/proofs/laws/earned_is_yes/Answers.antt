use Rattle.auth_backends.proofs.AuthenticationLemmas as lemmas
use Rattle.auth_backends.proofs.laws.earned_is_yes.Goals as goal

pub returns : goal.returns
returns c = lemmas.earned_is_yes
