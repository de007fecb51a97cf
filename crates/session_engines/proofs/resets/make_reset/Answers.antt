use Rattle.session_engines.proofs.MailLemmas.{mailing-found}
use Rattle.session_engines.proofs.resets.make_reset.Goals as goal

pub returns-clause-some : goal.returns-clause-some
returns-clause-some g c =
    λ cfg. mailing-found cfg (g.K.Keeper.seen c.args.keeper.now) (g.K.Keeper.seen c.users_by_email.new.self) (g.K.Keeper.seen c.keys.new.self) c.args.email.now c.as_str.result.now c.args.now
    c.in_ok-keys.keys c.in_ok-users.users c.mailed_users-users.result c.items.result.now c.in_ok-first.field-0 c.in_ok-mailing.field-0
    c.in_ok-users.ensures.reads c.in_ok-keys.ensures.reads c.as_str.ensures c.mailed_users-users.ensures.value c.items.ensures c.mailed_users-users.ensures.sound
    c.in_ok-users.ensures.value c.in_ok-keys.ensures.value c.in_ok-first.ensures.value c.in_ok-mailing.ensures.some
