use Rattle.auth_backends.proofs.AuthenticationLemmas as lemmas
use Rattle.auth_backends.proofs.laws.answer_is_one.Goals as goal

pub returns : goal.returns
returns c = lemmas.one_answer
