use Rattle.std.proofs.Common.{◌≡◌, ◌∙◌, ap, drop, rules, sym}
use Rattle.pass_hashers.specs.PasswordText.{IsUnusable}
use Rattle.pass_hashers.proofs.password_text.is_unusable.Goals as goal

pub returns-in-Some : goal.returns-in-Some
unfolding IsUnusable
returns-in-Some c = (
  λ yes. let letters = c.are_forty_letters.ensures.0 yes in (c.in-Some.letters.now, c.in-Some.ensures, letters.0, letters.1),
  λ found.
      let same : found.0 ≡ c.in-Some.letters.now = ap (drop 1) (sym found.1 ∙ c.in-Some.ensures) in
      c.are_forty_letters.ensures.1 (rw (← same) (found.2, found.3)),
)

pub returns-in-None : goal.returns-in-None
unfolding IsUnusable
returns-in-None c = (search rules, λ found. absurd (c.in-None.ensures found.0 found.1))
