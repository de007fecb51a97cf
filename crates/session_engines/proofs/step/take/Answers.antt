use Rattle.std.proofs.Common.{subst, sym}
use Rattle.keepers.specs.Keeper.{KeepsNames, Kept}
use Rattle.session_engines.proofs.AnswerLemmas.{answer-names, some-answer}
use Rattle.session_engines.proofs.step.take.Goals as goal

pub enter-requires-clause-names : goal.enter-requires-clause-names
enter-requires-clause-names g c =
    subst (λ (kept : Kept). KeepsNames c.in-Some.answer.changes.items kept.report) (sym c.in_ok-answer.ensures.reads)
    (answer-names c.args.cfg.now c.args.op.now (g.K.Keeper.seen c.args.keeper.now) c.in-Some.answer
    (some-answer c.args.cfg.now c.args.op.now (g.K.Keeper.seen c.args.keeper.now) c.in_ok-answer.field-0 c.in-Some.answer c.in-Some.is c.in_ok-answer.ensures.some))
