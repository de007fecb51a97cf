use Rattle.std.proofs.Common.{◌∙◌, arith}
use Rattle.outside.proofs.Positions.{slice_range-words_from}
use Rattle.outside.proofs.random_words.request_words.Goals as goal

pub returns : goal.returns
returns g c = c.ahead.ensures ∙ slice_range-words_from (g.W.Words.seen c.args.words.now) c.args.first 32 1024 (omega arith)
