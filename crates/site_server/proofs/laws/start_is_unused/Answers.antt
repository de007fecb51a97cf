use Rattle.site_server.proofs.StartLemmas.{unused_at_start}
use Rattle.site_server.proofs.laws.start_is_unused.Goals as goal

pub returns : goal.returns
returns c = unused_at_start
