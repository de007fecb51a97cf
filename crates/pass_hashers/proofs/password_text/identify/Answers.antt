use Rattle.std.proofs.Common.{◌≡◌, refl}
use Rattle.pass_hashers.proofs.ReadingLemmas.{HasParts-unique}
use Rattle.pass_hashers.specs.declared.hasher.HashFault.TheVariants.{Malformed}
use Rattle.pass_hashers.proofs.password_text.identify.Goals as goal

pub returns-in-Ok-clause-ok : goal.returns-in-Ok-clause-ok
returns-in-Ok-clause-ok c = λ hasher. (
  λ e.
      let same : c.in-Ok.parts.hasher ≡ hasher = cc e in
      (c.in-Ok.parts.salt.now, c.in-Ok.parts.last.now, rw same at c.in-Ok.ensures.ok),
  λ text.
      let same = HasParts-unique _ _ _ _ _ _ _ c.in-Ok.ensures.ok text.2 in
      rw same.0 refl,
)

pub returns-in-Err-clause-ok : goal.returns-in-Err-clause-ok
returns-in-Err-clause-ok c = λ hasher. (λ e. cc e, λ text. absurd (c.in-Err.ensures.none refl hasher text))

pub returns-in-Err-clause-malformed : goal.returns-in-Err-clause-malformed
returns-in-Err-clause-malformed c = (
  λ is. let fault : c.in-Err.fault ≡ Malformed = cc is in c.in-Err.ensures.malformed.0 (rw fault refl),
  λ facts. let is = c.in-Err.ensures.malformed.1 facts in let fault : c.in-Err.fault ≡ Malformed = cc is in rw fault refl,
)
