use Rattle.std.proofs.Common.{refl, rules}
use Rattle.pass_hashers.proofs.password_text.is_hashed.Goals as goal

pub returns-in-Ok : goal.returns-in-Ok
returns-in-Ok c = (
  λ yes. (c.in-Ok.field-0.hasher, (c.in-Ok.field-0.salt.now, c.in-Ok.field-0.last.now, c.in-Ok.ensures.ok)),
  λ found. refl,
)

pub returns-in-Err : goal.returns-in-Err
returns-in-Err c = (search rules, λ found. absurd (c.in-Err.ensures.none refl found.0 found.1))
