use Rattle.auth_backends.proofs.SessionBoxLemmas as lemmas
use Rattle.auth_backends.proofs.laws.logout_leaves_nothing.Goals as goal

pub returns : goal.returns
returns c = lemmas.logout_leaves_nothing
