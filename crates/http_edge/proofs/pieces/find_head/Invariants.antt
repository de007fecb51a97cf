use Rattle.std.proofs.Common.{◌+◌, ◌-◌, length}
use Rattle.http_edge.proofs.PiecesLemmas.{IsReadTo, reads_left}
use Rattle.http_edge.proofs.pieces.find_head.Given as goal

abbrev pub invariant-looks : goal.invariant-looks
invariant-looks g l = IsReadTo l.fn.bytes.items (g.S.Source.seen l.fn.source) l.bytes.items (g.S.Source.seen l.source) l.more

abbrev pub decreases-looks : goal.decreases-looks
decreases-looks g l = (16384 - length l.bytes.items) + reads_left l.more
