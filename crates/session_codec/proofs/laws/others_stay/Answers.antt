use Rattle.session_codec.proofs.MembersLemmas as lemmas
use Rattle.session_codec.proofs.laws.others_stay.Goals as goal

pub returns : goal.returns
returns c = λ name other ms apart. lemmas.others_stay other name ms apart
