use Rattle.session_codec.proofs.DecodedLemmas as lemmas
use Rattle.session_codec.proofs.laws.encoded_decodes.Goals as goal

pub returns : goal.returns
returns c = lemmas.encoded_decodes
