use Rattle.auth_backends.proofs.AuthenticationLemmas as lemmas
use Rattle.auth_backends.proofs.laws.wrong_password_is_exact.Goals as goal

pub returns : goal.returns
returns c = lemmas.wrong_password_is_exact
