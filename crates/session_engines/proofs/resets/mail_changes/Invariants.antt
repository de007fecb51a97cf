use Rattle.std.proofs.Common.{◌≡◌, ◌+◌, ◌++◌, drop}
use Rattle.ledger_rows.specs.MailSteps.{reset_mails}
use Rattle.session_engines.specs.Mailing.{put_changes}
use Rattle.session_engines.proofs.resets.mail_changes.Given as goal

-- the mails so far, and after them those to the users to come, are all; each took one id
abbrev pub invariant-loop-user : goal.invariant-loop-user
invariant-loop-user l =
    (l.changes.items ++ put_changes (reset_mails l.keys l.now l.id (drop l.user-index l.users)) ≡ put_changes (reset_mails l.keys l.now l.first l.users))
    × (l.id ≡ l.first + l.user-index)
