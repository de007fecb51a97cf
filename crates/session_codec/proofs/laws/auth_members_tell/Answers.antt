use Rattle.session_codec.proofs.AuthLemmas as lemmas
use Rattle.session_codec.proofs.laws.auth_members_tell.Goals as goal

pub returns : goal.returns
returns c = lemmas.auth_members_tell
