use Rattle.pass_hashers.proofs.ReadingLemmas.{HasParts-unique}
use Rattle.pass_hashers.proofs.laws.parts_are_unique.Goals as goal

pub returns : goal.returns
returns c = HasParts-unique
