use Rattle.std.proofs.Common.{arith}
use Rattle.std.proofs.lemmas.Str.Pattern.{split_parts}
use Rattle.pass_hashers.proofs.reading.cut.Goals as goal

pub returns-clause-cut : goal.returns-clause-cut
returns-clause-cut c = split_parts 36 c.args.text.now _ c.split_once.ensures.cases (omega arith)
