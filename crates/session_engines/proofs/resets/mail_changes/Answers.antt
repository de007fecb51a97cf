use Rattle.std.proofs.Common.{arith}
use Rattle.session_engines.proofs.MailLemmas.{mails-done, mails-next}
use Rattle.session_engines.proofs.resets.mail_changes.Goals as goal

pub loop-user-preserved : goal.loop-user-preserved
loop-user-preserved c = (
  mails-next c.loop-user.changes.items c.push.new.self.items _ c.args.keys.now c.args.now c.loop-user.id c.args.users.now c.loop-user.user-index c.user-item.result c.in_ok-mail.mail
      c.loop-user-test.true c.user-item.is c.in_ok-mail.ensures c.in_ok-push.ensures.items c.loop-user.invariant.0,
  omega (arith, c.loop-user.invariant.1),
)

pub returns : goal.returns
returns c =
    mails-done c.loop-user.changes.items _ c.args.keys.now c.args.now c.loop-user.id c.args.users.now c.loop-user.user-index c.loop-user-test.false c.loop-user.invariant.0
