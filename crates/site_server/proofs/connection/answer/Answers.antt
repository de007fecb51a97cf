use Rattle.site_server.proofs.DriveLemmas.{driven_nowhere}
use Rattle.site_server.proofs.connection.answer.Goals as goal

pub returns-in-Err-clause-driven : goal.returns-in-Err-clause-driven
returns-in-Err-clause-driven g c = driven_nowhere g.S.StepTaker.passed _ _ _ _ c.args.taker.now (g.met.S.StepTaker.stays c.args.taker.now)
