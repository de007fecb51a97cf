use Rattle.std.proofs.Common.{arith}
use Rattle.std.proofs.lemmas.Str.Pattern.{strip_suffix_char}
use Rattle.csrf_tokens.proofs.MarkLemmas.{before_mark-stripped}
use Rattle.middleware_chain.proofs.route.without_slash.Goals as goal

pub returns : goal.returns
returns c = before_mark-stripped _ _ _ (strip_suffix_char _ _ _ c.strip_suffix.ensures.cases (omega arith))
