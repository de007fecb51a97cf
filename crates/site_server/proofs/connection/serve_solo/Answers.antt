use Rattle.std.proofs.Common.{◌+◌, subst, sym}
use Rattle.site_server.specs.OwnLedger.{IsUnused}
use Rattle.site_server.proofs.TagLemmas.{still_unused}
use Rattle.site_server.proofs.connection.serve_solo.Goals as goal

pub returns-clause-unused : goal.returns-clause-unused
returns-clause-unused g c =
    subst (λ count. IsUnused c.args.worker (c.args.first + count) c.serve.new.taker) (sym c.serve.ensures.requests)
    (still_unused (record { boot = c.boot-boot.result; worker = c.args.worker }) c.args.first c.serve.ensures.exchanges c.serve.ensures.turns c.args.ledger.now c.serve.new.taker
    c.boot-boot.ensures.value c.serve.ensures.turns_are c.serve.ensures.passed c.requires.unused)
