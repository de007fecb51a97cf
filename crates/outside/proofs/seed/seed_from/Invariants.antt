use Rattle.std.proofs.Common.{◌≡◌, ◌-◌, ◌≤◌, length, take}
use Rattle.outside.specs.Devices.{HasRead}
use Rattle.outside.proofs.seed.seed_from.Given as goal

abbrev pub invariant-loop-done : goal.invariant-loop-done
invariant-loop-done g l = record {
  size : length l.seed ≡ 32;
  within : l.done ≤ 32;
  reads : HasRead (g.S.Source.seen l.fn.source) (g.S.Source.seen l.source) (take l.done l.seed);
}

abbrev pub decreases-loop-done : goal.decreases-loop-done
decreases-loop-done g l = 32 - l.done
