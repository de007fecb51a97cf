use Rattle.std.proofs.Common.{Some}
use Rattle.account_views.specs.Machine.{left}
use Rattle.site_server.proofs.DriveLemmas.{advance_along, driven_answer, driven_refusal, goes_on}
use Rattle.site_server.proofs.driving.drive.Goals as goal

pub returns-in-Answered-clause-driven : goal.returns-in-Answered-clause-driven
returns-in-Answered-clause-driven g c =
    driven_answer g.S.StepTaker.passed g.S.StepTaker.may_enter g.met.S.StepTaker.adds _ _ _ (λ given. left c.args.settings.now (g.W.Words.seen c.args.words.now) c.take_turn.new.machine (Some given)) _ _ _ _ _ c.take_turn.new.taker c.in-Answered.response
    c.loop-step.invariant (advance_along _ (λ given. left c.args.settings.now (g.W.Words.seen c.args.words.now) c.take_turn.new.machine (Some given)) _ (λ turns. g.S.StepTaker.passed turns c.loop-step.taker c.take_turn.new.taker) _ _ c.in-Answered.is c.take_turn.ensures)

pub returns-in-Refused-clause-driven : goal.returns-in-Refused-clause-driven
returns-in-Refused-clause-driven g c =
    driven_refusal g.S.StepTaker.passed g.S.StepTaker.may_enter g.met.S.StepTaker.adds _ _ _ (λ given. left c.args.settings.now (g.W.Words.seen c.args.words.now) c.take_turn.new.machine (Some given)) _ _ _ _ _ c.take_turn.new.taker c.in-Refused.fault c.refusal.result
    c.loop-step.invariant (advance_along _ (λ given. left c.args.settings.now (g.W.Words.seen c.args.words.now) c.take_turn.new.machine (Some given)) _ (λ turns. g.S.StepTaker.passed turns c.loop-step.taker c.take_turn.new.taker) _ _ c.in-Refused.is c.take_turn.ensures) c.refusal.ensures.value

pub loop-step-preserved : goal.loop-step-preserved
loop-step-preserved g c =
    goes_on g.S.StepTaker.passed g.S.StepTaker.may_enter g.met.S.StepTaker.adds g.met.S.StepTaker.keeps _ _ _ (λ given. left c.args.settings.now (g.W.Words.seen c.args.words.now) c.take_turn.new.machine (Some given)) _ _ _ _ c.take_turn.new.taker c.in-Replied.given
    c.loop-step.invariant (advance_along _ (λ given. left c.args.settings.now (g.W.Words.seen c.args.words.now) c.take_turn.new.machine (Some given)) _ (λ turns. g.S.StepTaker.passed turns c.loop-step.taker c.take_turn.new.taker) _ _ c.in-Replied.is c.take_turn.ensures)
