use Rattle.std.proofs.Common.{◌-◌, length}
use Rattle.http_edge.specs.Stream.{ReadsOn}
use Rattle.http_edge.proofs.pieces.fill_to.Given as goal

abbrev pub invariant-loop-bytes : goal.invariant-loop-bytes
invariant-loop-bytes g l = ReadsOn l.fn.bytes.items (g.S.Source.seen l.fn.source) l.bytes.items (g.S.Source.seen l.source)

abbrev pub decreases-loop-bytes : goal.decreases-loop-bytes
decreases-loop-bytes g l = l.total - length l.bytes.items
