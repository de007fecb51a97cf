-- What mails with reset links are to the keeper.
use Rattle.std.specs.Prelude.{◌≡◌, ◌≤◌, ◌+◌, ◌^◌, ℕ, List, [], length, map}
use Rattle.ledger_rows.specs.MailSteps.{reset_mails}
use Rattle.ledger_rows.specs.Replies.{IsReplyOf}
use Rattle.ledger_rows.specs.declared.operation.Op.TheVariants.{CheckReset}
use Rattle.ledger_rows.specs.declared.reply.Reply.{Reply}
use Rattle.ledger_rows.specs.declared.reply.Reply.TheVariants.{Mailed}
use Rattle.ledger_rows.specs.declared.rows.MailRow.{MailRow}
use Rattle.ledger_rows.specs.declared.rows.UserRow.{UserRow}
use Rattle.keepers.specs.declared.change.Change.{Change}
use Rattle.keepers.specs.declared.change.Change.TheVariants.{PutMail}
use Rattle.session_engines.specs.declared.answer.Answer.{Answer}

-- the reply is of the kind of a token check's, whose user, token and moment don't matter
abbrev pub IsTokenReply : Reply → Type 0
IsTokenReply reply = IsReplyOf (CheckReset 0 [] 0) reply

-- each mail is put in
abbrev pub put_changes : List MailRow → List Change
put_changes mails = map (λ mail. PutMail mail) mails

-- a mail to each user, numbered from an id on
pub record IsMailing (keys : List (List ℕ)) (users : List UserRow) (first now : ℕ) (answer : Answer) : Type 0 where
  pub reply : answer.reply ≡ Mailed (length users)
  pub changes : answer.changes.items ≡ put_changes (reset_mails keys now first users)
  pub fits : first + length users ≤ 2 ^ 62
