use Rattle.std.proofs.Common.{◌≡◌, length}
use Rattle.http_edge.specs.RequestLine.{after_line_ends}
use Rattle.http_edge.proofs.request_head.skip_line_ends.Given as goal

abbrev pub invariant-ends : goal.invariant-ends
invariant-ends l = after_line_ends l.rest ≡ after_line_ends l.fn.bytes

abbrev pub decreases-ends : goal.decreases-ends
decreases-ends l = length l.rest
