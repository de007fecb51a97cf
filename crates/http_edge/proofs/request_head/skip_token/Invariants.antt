use Rattle.std.proofs.Common.{◌≡◌, length}
use Rattle.http_edge.specs.RequestLine.{after_token}
use Rattle.http_edge.proofs.request_head.skip_token.Given as goal

abbrev pub invariant-token : goal.invariant-token
invariant-token l = after_token l.rest ≡ after_token l.fn.bytes

abbrev pub decreases-token : goal.decreases-token
decreases-token l = length l.rest
