use Rattle.site_server.proofs.TranscriptLemmas.{written_once}
use Rattle.site_server.proofs.laws.written_is_one.Goals as goal

pub returns : goal.returns
returns c = written_once c.framing_is_one.ensures
