use Rattle.session_codec.proofs.DecodedLemmas as lemmas
use Rattle.session_codec.proofs.laws.payload_reads_back.Goals as goal

pub returns : goal.returns
returns c = lemmas.payload_reads_back
