use Rattle.std.proofs.Common.{refl, rules}
use Rattle.pass_hashers.proofs.ReadingLemmas.{HasParts-unique}
use Rattle.pass_hashers.proofs.verify_password.verify.Goals as goal

pub returns-then-is_installed : goal.returns-then-is_installed
returns-then-is_installed c = (
  λ yes.
      let last = c.is_last_part.ensures.0 yes in
      let installed = rw c.algo_of.ensures at (c.is_installed.ensures.0 c.if-is_installed.true) in
      (c.in-Ok.parts.hasher, c.in-Ok.parts.salt.now, rw last at c.in-Ok.ensures.ok, installed),
  λ found.
      let same = HasParts-unique _ _ _ _ _ _ _ c.in-Ok.ensures.ok found.2 in
      c.is_last_part.ensures.1 (rw (same.0, same.1) same.2),
)

pub returns-in-Err : goal.returns-in-Err
returns-in-Err c = (search rules, λ found. absurd (c.in-Err.ensures.none refl found.0 (found.1, _, found.2)))
