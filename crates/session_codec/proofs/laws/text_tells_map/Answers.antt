use Rattle.session_codec.proofs.DecodedLemmas.{text_tells_map}
use Rattle.session_codec.proofs.laws.text_tells_map.Goals as goal

pub returns : goal.returns
returns c = text_tells_map
