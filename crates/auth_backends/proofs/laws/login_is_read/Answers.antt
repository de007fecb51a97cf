use Rattle.auth_backends.proofs.SessionBoxLemmas as lemmas
use Rattle.auth_backends.proofs.laws.login_is_read.Goals as goal

pub returns : goal.returns
returns c = lemmas.login_is_read
