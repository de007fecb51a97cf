use Rattle.std.proofs.Common.{subst, sym}
use Rattle.session_engines.proofs.LedgerLemmas.{taken-sound}
use Rattle.session_engines.specs.Ledger.{IsSoundLedger}
use Rattle.session_engines.proofs.ledger.Ledger.step.Goals as goal

pub returns-clause-sound : goal.returns-clause-sound
returns-clause-sound g c =
    λ sound. taken-sound c.self.inside.cfg c.self.inside.boot (record { tag = c.args.tag; op = c.args.op.now }) (g.K.Keeper.seen c.self.inside.keeper) (g.K.Keeper.seen c.take.new.keeper)
    c.take.result c.requires.operation c.requires.no_start c.take.ensures.some c.take.ensures.none c.take.ensures.err (subst IsSoundLedger (sym c.self.view_is) sound)
