use Rattle.std.proofs.Common.{◌∙◌, ◌+◌, arith, refl}
use Rattle.std.proofs.lemmas.Bool.Decides.{nat_tests}
use Rattle.site_server.specs.Outcome.{tag_of}
use Rattle.site_server.proofs.ServeLemmas.{round_passed, serves_closes, serves_ends, serves_nothing, serving_begins, serving_goes_on}
use Rattle.site_server.proofs.connection.serve.Goals as goal

pub returns-in-Err : goal.returns-in-Err
returns-in-Err g c = serves_nothing g.S.StepTaker.passed c.args.settings.now _ c.args.first _ c.args.taker.now c.report_of.result
    (g.met.S.StepTaker.stays c.args.taker.now) c.report_of.ensures.end (c.report_of.ensures.moments ∙ c.new.ensures.items) c.report_of.ensures.requests

pub loop-done-init : goal.loop-done-init
loop-done-init g c = record {
  serving = rw (c.in-Ok.ensures.reader, c.in-Ok.ensures.moments) (serving_begins g.S.StepTaker.passed c.args.settings.now _ c.args.first _ c.args.taker.now (g.met.S.StepTaker.stays c.args.taker.now));
  own = c.requires.own;
  noted = omega (arith, c.in-Ok.ensures.len);
  room = omega (arith, c.in-Ok.ensures.capacity);
}

pub returns-in-Some : goal.returns-in-Some
returns-in-Some g c = serves_ends g.S.StepTaker.passed g.met.S.StepTaker.adds c.framing_stands.ensures.request c.framing_stands.ensures.refusal c.args.settings.now _ c.args.first
    c.loop-done.done _ _ _ _ _ _ c.loop-done.moments.items c.note.new.moments.items c.args.taker.now c.loop-done.taker c.serve_next-round.new.taker c.serve_next-round.result
    c.in-Some.end c.report_of-in-Some.result (grind (arith, nat_tests, c.loop-done-test.true)) refl c.in-Some.is c.note.ensures.items
    (g.met.I.Source.never_failed c.args.input.now) (g.met.I.Source.never_failed c.serve_next-round.new.input) c.loop-done.invariant.serving c.serve_next-round.ensures
    c.report_of-in-Some.ensures.end c.report_of-in-Some.ensures.moments c.report_of-in-Some.ensures.requests

pub loop-done-preserved : goal.loop-done-preserved
loop-done-preserved g c =
    let round = round_passed c.args.settings.now _ (c.args.first + c.loop-done.done) _ _ _ _ _ (λ turns. g.S.StepTaker.passed turns c.loop-done.taker c.serve_next-round.new.taker)
    c.serve_next-round.result c.serve_next-round.ensures in
    record {
      serving = serving_goes_on g.S.StepTaker.passed g.met.S.StepTaker.adds c.framing_stands.ensures.request c.args.settings.now _ c.args.first
          c.loop-done.done _ _ _ _ _ _ c.loop-done.moments.items c.note.new.moments.items c.args.taker.now c.loop-done.taker c.serve_next-round.new.taker c.serve_next-round.result
          (grind (arith, nat_tests, c.loop-done-test.true)) refl c.in_default.is c.note.ensures.items c.loop-done.invariant.serving c.serve_next-round.ensures;
      own = λ number step. g.met.S.StepTaker.keeps round.0 c.loop-done.taker c.serve_next-round.new.taker (tag_of (record { boot = c.args.boot; worker = c.args.worker }) number step)
          round.1 (c.loop-done.invariant.own number step);
      noted = omega arith;
      room = omega arith;
    }

pub returns : goal.returns
returns g c = serves_closes g.S.StepTaker.passed c.args.settings.now _ c.args.first c.loop-done.done c.loop-done.reader _ _ c.loop-done.moments.items c.args.taker.now c.loop-done.taker
    c.report_of-2.result (grind (arith, nat_tests, c.loop-done-test.false, c.loop-done.auto.done-end)) c.loop-done.invariant.serving
    c.report_of-2.ensures.end c.report_of-2.ensures.moments c.report_of-2.ensures.requests
