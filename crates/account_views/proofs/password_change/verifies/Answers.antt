use Rattle.std.proofs.lemmas.Bool.Decides.{same_from_decides}
use Rattle.auth_backends.proofs.PasswordReadingLemmas.{verifies-Decides}
use Rattle.account_views.proofs.password_change.verifies.Goals as goal

pub returns : goal.returns
returns c =
    let fits = rw (c.as_str.ensures, c.items.ensures) at c.verify.ensures in
    same_from_decides _ _ fits (verifies-Decides c.args.password.now c.args.text.now c.args.cfg.now.installed)
