use Rattle.site_server.specs.OwnLedgerLaws.{turned-step}
use Rattle.site_server.proofs.own_ledger.LedgerStepTaker.step.Goals as goal

pub returns-clause-passed : goal.returns-clause-passed
returns-clause-passed g c = turned-step c.args.self.now c.step.new.self c.args.tag c.args.op.now c.step.result c.step.ensures.steps c.step.ensures.sound
