use Rattle.pass_hashers.proofs.TextLemmas.{HasParts-made}
use Rattle.pass_hashers.proofs.laws.made_text_verifies.Goals as goal

pub returns : goal.returns
returns c = λ hasher password salt installed usable salted there. (hasher, salt, HasParts-made hasher password salt usable salted, there)
