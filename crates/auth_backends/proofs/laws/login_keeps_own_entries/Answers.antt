use Rattle.auth_backends.proofs.SessionBoxLemmas as lemmas
use Rattle.auth_backends.proofs.laws.login_keeps_own_entries.Goals as goal

pub returns : goal.returns
returns c = lemmas.login_keeps_own_entries
