use Rattle.std.proofs.Common.{Err, ap, inr, refl}
use Rattle.site_server.specs.Command.{asked_of}
use Rattle.site_server.proofs.CommandLemmas.{runs_unseeded, seed_cause}
use Rattle.site_server.proofs.site.manage_seeded.Goals as goal

pub returns-in-Err-clause-runs : goal.returns-in-Err-clause-runs
returns-in-Err-clause-runs g c = inr (
  refl,
  λ drawn. runs_unseeded (asked_of c.args.words.now) _ _ _ _ c.unseeded.result c.unseeded.ensures
      (seed_cause c.in-Err.field-0 (g.R.Source.seen c.args.seed.now) (g.R.Source.seen c.seed_from.new.source) (λ is. c.in-Err.ensures.unread (ap Err is)) (λ is. c.in-Err.ensures.too_short (ap Err is)))
      (record { input = refl; clock = refl; words = refl; kept = refl }),
)
