use Rattle.pass_hashers.proofs.TextLemmas.{text_ends}
use Rattle.pass_hashers.proofs.laws.text_shows_its_end.Goals as goal

pub returns : goal.returns
returns c = text_ends
