use Rattle.std.proofs.Common.{subst, sym}
use Rattle.site_server.specs.ManageSite.{HasKnownBoots}
use Rattle.site_server.proofs.StartLemmas.{boot_at_start, known_at_start, unused_at_start}
use Rattle.site_server.proofs.TagLemmas.{known_turned}
use Rattle.site_server.proofs.site.pipe.Goals as goal

pub serve_solo-report-requires-clause-unused : goal.serve_solo-report-requires-clause-unused
serve_solo-report-requires-clause-unused g c =
    unused_at_start c.args.site.opening c.in-Ok.cfg (g.K.Keeper.seen c.args.keeper) c.in-Ok-open_with.ledger c.in-Ok-open_with.ensures.ok c.requires.boots

pub returns-in-Ok-open_with-clause-boots : goal.returns-in-Ok-open_with-clause-boots
returns-in-Ok-open_with-clause-boots g c =
    let found = g.K.Keeper.seen c.args.keeper in
    let ledger = c.in-Ok-open_with.ledger in
    let serves = c.serve_solo-report.ensures.serves in
    subst (λ kept. HasKnownBoots kept) (sym c.close.ensures)
    (known_turned (record { boot = ledger.boot; worker = 1 }) 1 serves.exchanges serves.turns ledger c.serve_solo-report.new.ledger
    (boot_at_start c.args.site.opening c.in-Ok.cfg found ledger c.in-Ok-open_with.ensures.ok c.requires.boots) serves.turns_are serves.passed
    (known_at_start c.args.site.opening c.in-Ok.cfg found ledger c.in-Ok-open_with.ensures.ok c.requires.boots))
