use Rattle.auth_backends.proofs.AuthenticationLemmas as lemmas
use Rattle.auth_backends.proofs.laws.refused_is_exact.Goals as goal

pub returns : goal.returns
returns c = lemmas.refused_is_exact
