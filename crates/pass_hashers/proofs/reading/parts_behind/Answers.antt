use Rattle.std.proofs.Common.{refl, sym, subst, ◌∙◌}
use Rattle.pass_hashers.specs.PasswordText.{IsDigestText}
use Rattle.pass_hashers.proofs.ReadingLemmas.{HasRest-front, front_unique}
use Rattle.pass_hashers.proofs.reading.parts_behind.Goals as goal

pub returns-in_err-hasher-clause-none : goal.returns-in_err-hasher-clause-none
returns-in_err-hasher-clause-none c = λ none hasher salt last rest.
    c.in_err-hasher.ensures.none refl hasher _ (HasRest-front _ _ hasher salt last rest)

pub returns-clause-none : goal.returns-clause-none
returns-clause-none c = λ none hasher salt last rest.
    let here = c.in_ok-hasher.ensures.found in
    let there = HasRest-front _ _ hasher salt last rest in
    let same = front_unique c.in_ok-hasher.hasher hasher _ _ (here.named ∙ sym there.named) here.usable there.usable (sym here.whole ∙ there.whole) in
    let digest = subst (λ algo. IsDigestText algo last) (sym here.named) rest.digest in
    c.salted_parts.ensures.none none salt last (record { whole = same.1; salted = rest.salted; digest = digest })
