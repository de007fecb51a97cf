use Rattle.http_edge.proofs.Settled.{request_settled, refused_settled}
use Rattle.http_edge.proofs.laws.framing_stands.Goals as goal

pub returns : goal.returns
returns c = record { request = request_settled; refusal = refused_settled }
