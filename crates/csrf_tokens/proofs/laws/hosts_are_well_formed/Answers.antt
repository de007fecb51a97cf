use Rattle.csrf_tokens.proofs.HostGrammarLemmas.{hosts_well_formed}
use Rattle.csrf_tokens.proofs.laws.hosts_are_well_formed.Goals as goal

pub returns : goal.returns
returns c = hosts_well_formed
