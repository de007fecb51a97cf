use Rattle.std.proofs.Common.{◌-◌, ◌≤◌, length}
use Rattle.outside.specs.Devices.{HasRead}
use Rattle.outside.proofs.source.read_up_to.Given as goal

abbrev pub invariant-loop-piece : goal.invariant-loop-piece
invariant-loop-piece g l = record {
  within : length l.bytes.items ≤ l.most;
  reads : HasRead (g.S.Source.seen l.fn.source) (g.S.Source.seen l.source) l.bytes.items;
}

abbrev pub decreases-loop-piece : goal.decreases-loop-piece
decreases-loop-piece g l = l.most - length l.bytes.items
