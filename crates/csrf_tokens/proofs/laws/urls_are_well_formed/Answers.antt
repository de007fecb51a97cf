use Rattle.csrf_tokens.proofs.UrlGrammarLemmas.{urls_well_formed}
use Rattle.csrf_tokens.proofs.laws.urls_are_well_formed.Goals as goal

pub returns : goal.returns
returns c = urls_well_formed
