use Rattle.std.proofs.Common.{◌≡◌, ◌∷◌, ◌≤◌, ℕ, Err, arith, length, subst, ap}
use Rattle.signing_core.specs.declared.keys.KeysFault.TheVariants.{Length, Twice}
use Rattle.signing_core.specs.Keys.{IsFirstOfOtherLength, IsFirstTwice}
use Rattle.signing_core.proofs.KeysLemmas.{AreDifferent-not_twice, IsFirstOfOtherLength-same, IsFirstTwice-same}
use Rattle.signing_core.proofs.keys.Keys.new.Goals as goal

pub returns-in-Some-clause-length : goal.returns-in-Some-clause-length
returns-in-Some-clause-length c =
    let found = rw (c.items.ensures, c.as_slice.ensures.value) at c.in-Some.ensures in
    let few : length (c.args.first ∷ c.args.fallbacks.items) ≤ 16 = omega arith in
    λ at. (
      λ same. let place : c.in-Some.at ≡ at = cc in (few, subst (IsFirstOfOtherLength (c.args.first ∷ c.args.fallbacks.items)) place found),
      λ fact. ap (λ (n : ℕ). Err (Length n)) (IsFirstOfOtherLength-same _ _ _ found fact.1),
    )

pub returns-in-Some-first_twice-clause-twice : goal.returns-in-Some-first_twice-clause-twice
returns-in-Some-first_twice-clause-twice c =
    let found = rw (c.items-2.ensures, c.as_slice-2.ensures.value) at c.in-Some-first_twice.ensures in
    let lengths = rw (c.items.ensures, c.as_slice.ensures.value) at c.in_default.ensures in
    let few : length (c.args.first ∷ c.args.fallbacks.items) ≤ 16 = omega arith in
    λ at. (
      λ same. let place : c.in-Some-first_twice.at ≡ at = cc in (few, lengths, subst (IsFirstTwice (c.args.first ∷ c.args.fallbacks.items)) place found),
      λ fact. ap (λ (n : ℕ). Err (Twice n)) (IsFirstTwice-same _ _ _ found fact.2),
    )

pub returns-in-Ok-clause-twice : goal.returns-in-Ok-clause-twice
returns-in-Ok-clause-twice c =
    let different = rw (c.items-2.ensures, c.as_slice-2.ensures.value) at c.in_default-first_twice.ensures in
    λ at. (λ same. absurd (cc), λ fact. absurd (AreDifferent-not_twice _ at different fact.2))

pub returns-in-Err-clause-twice : goal.returns-in-Err-clause-twice
returns-in-Err-clause-twice c =
    let different = rw (c.items-2.ensures, c.as_slice-2.ensures.value) at c.in_default-first_twice.ensures in
    λ at. (λ same. absurd (cc), λ fact. absurd (AreDifferent-not_twice _ at different fact.2))
