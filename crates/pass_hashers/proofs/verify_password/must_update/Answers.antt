use Rattle.std.proofs.Common.{◌≡◌, ◌<◌, ◌∙◌, true, inl, inr, length, refl, rules, sym}
use Rattle.std.proofs.lemmas.Bool.{false≢true}
use Rattle.pass_hashers.proofs.ReadingLemmas.{HasParts-unique}
use Rattle.pass_hashers.proofs.verify_password.must_update.Goals as goal

pub returns-else-differs : goal.returns-else-differs
returns-else-differs c = (
  λ short.
      let shorter : length c.in-Ok.parts.salt.now < 22 = search (rules, short) in
      (c.in-Ok.parts.hasher, c.in-Ok.parts.salt.now, c.in-Ok.parts.last.now, c.in-Ok.ensures.ok, inr shorter),
  λ old.
      let same = HasParts-unique _ _ _ _ _ _ _ c.in-Ok.ensures.ok old.3 in
      elim old.4 [
        | inl other ↦
            let differs : c.differs.result ≡ true = c.differs.ensures.1 (λ e. other (sym same.0 ∙ e)) in
            absurd (false≢true (sym c.if-differs.false ∙ differs))
        | inr short ↦ let shorter : length c.in-Ok.parts.salt.now < 22 = rw same.1 short in search (rules, shorter)
      ],
)

pub returns-in-Err : goal.returns-in-Err
returns-in-Err c = (search rules, λ old. absurd (c.in-Err.ensures.none refl old.0 (old.1, old.2, old.3)))
