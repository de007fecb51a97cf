use Rattle.auth_backends.proofs.AuthenticationLemmas as lemmas
use Rattle.auth_backends.proofs.laws.inactive_is_refused.Goals as goal

pub returns : goal.returns
returns c = lemmas.inactive_is_refused
