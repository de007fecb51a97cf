use Rattle.std.proofs.Common.{subst, sym}
use Rattle.ledger_rows.specs.declared.operation.Op.{Op}
use Rattle.session_engines.specs.Taking.{IsAnswer}
use Rattle.session_engines.proofs.step.answer_to.Goals as goal

pub returns-in_ok-delete-in-Delete-clause-some : goal.returns-in_ok-delete-in-Delete-clause-some
returns-in_ok-delete-in-Delete-clause-some g c =
    subst (λ (op : Op). IsAnswer c.args.cfg.now op (g.K.Keeper.seen c.args.keeper.now) c.in_ok-delete-in-Delete.field-0) (sym c.in-Delete.is)
    (c.in_ok-delete-in-Delete.ensures c.args.cfg.now (g.K.Keeper.seen c.args.keeper.now))
