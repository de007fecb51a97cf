use Rattle.std.proofs.Common.{refl}
use Rattle.std.specs.Option.{option_copied}
use Rattle.ledger_rows.specs.declared.operation.Op.TheVariants.{Load}
use Rattle.session_engines.proofs.AnswerLemmas.{unchanged-answer}
use Rattle.session_engines.proofs.load.load.Goals as goal

pub returns-clause-ok : goal.returns-clause-ok
returns-clause-ok g c =
    unchanged-answer c.args.cfg.now (Load (option_copied c.args.cookie) c.args.now) (g.K.Keeper.seen c.args.keeper.now) c.unchanged.result c.in_ok-reply.reply
    c.unchanged.ensures.reply c.unchanged.ensures.changes c.in_ok-reply.ensures.kind c.in_ok-reply.ensures.value (λ tables. refl)
