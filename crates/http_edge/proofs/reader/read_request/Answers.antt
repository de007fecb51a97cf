use Rattle.std.proofs.Common.{arith, ◌≡◌, ◌∙◌, ℕ}
use Rattle.outside.specs.Faults.{Rose}
use Rattle.http_edge.proofs.Answering.{answered}
use Rattle.http_edge.proofs.reader.read_request.Goals as goal

pub returns-clause-value : goal.returns-clause-value
returns-clause-value g c = answered _ _ _ _ _ c.take.ensures.answer

stayed : (a b : ℕ) → a ≡ 0 → b ≡ 0 → Rose a b → ⊥
stayed a b before now rose = omega arith

pub returns-clause-never_fails : goal.returns-clause-never_fails
returns-clause-never_fails g c never failed =
    stayed _ _ (g.met.S.Source.never_failed c.args.source.now never)
    (g.met.S.Source.never_failed c.take.new.source (c.take.ensures.answer.source.never_fails ∙ never)) (c.take.ensures.cause failed)
