use Rattle.std.proofs.Common.{ap, sym, ◌∙◌}
use Rattle.account_views.specs.Machine.{left, steps_of_next}
use Rattle.site_server.proofs.DriveLemmas.{refused_step}
use Rattle.site_server.proofs.driving.take_turn.Goals as goal

pub returns-in-Ok-Step : goal.returns-in-Ok-Step
returns-in-Ok-Step g c =
    refused_step (left c.args.settings.now (g.W.Words.seen c.args.words.now) c.args.machine.now c.args.reply) c.in-Ok-Step.op _ c.args.tag c.in-Err-step.fault
    (λ turns. g.S.StepTaker.passed turns c.args.taker.now c.step.new.self)
    (ap (steps_of_next c.args.settings.now (g.W.Words.seen c.args.words.now) c.next.new.self) (sym c.in-Ok-Step.field-0-is) ∙ c.in-Ok-Step.ensures.value) c.in-Err-step.ensures.passed
