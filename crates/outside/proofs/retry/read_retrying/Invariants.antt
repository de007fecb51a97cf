use Rattle.std.proofs.Common.{◌≡◌, length}
use Rattle.std.specs.Io.KnownBytes.{Keeps}
use Rattle.outside.proofs.retry.read_retrying.Given as goal

abbrev pub invariant-loop : goal.invariant-loop
invariant-loop g l = record {
  room : length l.buf ≡ length l.fn.buf;
  kept : Keeps (g.I.Read.remaining l.fn.input) (g.I.Read.remaining l.input);
}
