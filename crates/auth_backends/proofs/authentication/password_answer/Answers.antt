use Rattle.std.proofs.Common.{refl}
use Rattle.auth_backends.proofs.authentication.password_answer.Goals as goal

pub returns-then-verify : goal.returns-then-verify
returns-then-verify c =
    let fits = rw (c.as_str-text.ensures, c.items.ensures) at (c.verify.ensures.0 c.if-verify.true) in
    let outdated = rw c.as_str-text.ensures at c.must_update-upgrade.ensures in
    (refl, fits, outdated)
