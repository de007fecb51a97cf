use Rattle.std.proofs.Common.{◌↔◌, IfOk, IsTrue, subst, sym}
use Rattle.ledger_rows.specs.Step.{IsOperation}
use Rattle.ledger_rows.specs.declared.operation.Op.{Op}
use Rattle.ledger_rows.proofs.well_formed.op_ok.Goals as goal

pub returns-in-Create : goal.returns-in-Create
returns-in-Create c = subst (λ (op : Op). IfOk c.is_beginning.result (λ ok. IsTrue ok ↔ IsOperation op)) (sym c.in-Create.is) c.is_beginning.ensures

pub returns-in-Cycle : goal.returns-in-Cycle
returns-in-Cycle c =
    subst (λ (op : Op). IfOk c.is_beginning-in-Cycle.result (λ ok. IsTrue ok ↔ IsOperation op)) (sym c.in-Cycle.is) c.is_beginning-in-Cycle.ensures
