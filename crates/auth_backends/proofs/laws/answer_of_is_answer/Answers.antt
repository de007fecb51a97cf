use Rattle.auth_backends.proofs.AuthenticationLemmas as lemmas
use Rattle.auth_backends.proofs.laws.answer_of_is_answer.Goals as goal

pub returns : goal.returns
returns c = lemmas.answer_of_is_answer
