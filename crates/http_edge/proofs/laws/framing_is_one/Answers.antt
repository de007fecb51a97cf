use Rattle.http_edge.proofs.Settled.{one_framing}
use Rattle.http_edge.proofs.laws.framing_is_one.Goals as goal

pub returns : goal.returns
returns c = one_framing
