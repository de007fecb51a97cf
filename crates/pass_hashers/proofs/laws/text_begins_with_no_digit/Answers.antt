use Rattle.pass_hashers.proofs.TextLemmas.{text_begins}
use Rattle.pass_hashers.proofs.laws.text_begins_with_no_digit.Goals as goal

pub returns : goal.returns
returns c = text_begins
