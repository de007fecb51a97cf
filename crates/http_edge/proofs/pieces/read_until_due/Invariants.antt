use Rattle.std.proofs.Common.{◌-◌, length}
use Rattle.http_edge.specs.Stream.{ReadsOn}
use Rattle.http_edge.proofs.pieces.read_until_due.Given as goal

abbrev pub invariant-pieces : goal.invariant-pieces
invariant-pieces g l = ReadsOn l.fn.bytes.items (g.S.Source.seen l.fn.source) l.bytes.items (g.S.Source.seen l.source)

abbrev pub decreases-pieces : goal.decreases-pieces
decreases-pieces g l = 16384 - length l.bytes.items
