use Rattle.std.proofs.Common.{◌-◌, ◌≤◌, length, take}
use Rattle.outside.specs.Devices.{HasWritten}
use Rattle.outside.proofs.sink.write_whole.Given as goal

abbrev pub invariant-loop-done : goal.invariant-loop-done
invariant-loop-done g l = record {
  within : l.done ≤ length l.piece;
  writes : HasWritten (g.T.Sink.seen l.fn.sink) (g.T.Sink.seen l.sink) (take l.done l.piece);
}

abbrev pub decreases-loop-done : goal.decreases-loop-done
decreases-loop-done g l = length l.piece - l.done
