use Rattle.std.proofs.lemmas.Bool.Decides.{same_from_decides}
use Rattle.account_views.proofs.LoginFormLemmas.{is_user_name-Decides}
use Rattle.account_views.proofs.login_form.is_user_name.Goals as goal

pub returns : goal.returns
returns c = same_from_decides _ _ c.is_user_name.ensures (is_user_name-Decides c.args.name.now)
