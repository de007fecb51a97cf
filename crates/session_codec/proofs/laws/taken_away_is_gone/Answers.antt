use Rattle.session_codec.proofs.MembersLemmas as lemmas
use Rattle.session_codec.proofs.laws.taken_away_is_gone.Goals as goal

pub returns : goal.returns
returns c = λ name ms session. lemmas.taken_away_is_gone name ms session.1
