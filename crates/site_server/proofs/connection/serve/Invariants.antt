use Rattle.std.proofs.Common.{◌≤◌, ℕ, vec_len, vec_capacity}
use Rattle.site_server.specs.OneWorker.{devices}
use Rattle.site_server.specs.Outcome.{tag_of}
use Rattle.site_server.proofs.ServeLemmas.{IsServing}
use Rattle.site_server.proofs.connection.serve.Given as goal

-- what was done so far and what completes it; the worker may enter more, and there is room for the moments to come
abbrev pub invariant-loop-done : goal.invariant-loop-done
invariant-loop-done g l = record {
  serving : IsServing g.S.StepTaker.passed l.settings (record { boot = l.boot; worker = l.worker }) l.first l.done l.reader
      (devices (g.I.Source.seen l.fn.input) (g.O.Sink.seen l.fn.output) (g.C.Clock.seen l.fn.clock) (g.W.Words.seen l.fn.words))
      (devices (g.I.Source.seen l.input) (g.O.Sink.seen l.output) (g.C.Clock.seen l.clock) (g.W.Words.seen l.words))
      l.moments.items l.fn.taker l.taker;
  own : (number step : ℕ) → g.S.StepTaker.may_enter l.taker (tag_of (record { boot = l.boot; worker = l.worker }) number step);
  noted : vec_len l.moments ≤ l.done;
  room : 1000 ≤ vec_capacity l.moments;
}
