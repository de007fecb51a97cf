use Rattle.std.proofs.Common.{refl, rules}
use Rattle.pass_hashers.proofs.ReadingLemmas.{HasParts-joined}
use Rattle.pass_hashers.proofs.reading.read.Goals as goal

pub returns-in-Some-parts_behind-clause-malformed : goal.returns-in-Some-parts_behind-clause-malformed
returns-in-Some-parts_behind-clause-malformed c = (
  search rules,
  λ facts.
      let named = (c.in-Some-algo_named.ensures c.in-Some-algo_named.algo).0 refl in
      let parts = HasParts-joined _ _ _ _ _ _ _ c.in-Some.ensures.cut named c.in-Some-parts_behind.ensures.found in
      absurd (facts.1 _ (_, _, parts)),
)
