use Rattle.auth_backends.proofs.SessionBoxLemmas as lemmas
use Rattle.auth_backends.proofs.laws.rehash_keeps_login.Goals as goal

pub returns : goal.returns
returns c = lemmas.rehash_keeps_login
