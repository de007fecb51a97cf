-- What each command does, as a tree: it asks for one step of the store after another, goes on by the replies, and ends in
-- what it says. This project's own; the commands are those of Django's `createsuperuser`, `changepassword` and
-- `clearsessions` and of its admin.
use Rattle.std.specs.Prelude.{ℕ, zero, suc, ◌^◌, List, [], ◌++◌, Option, None, Some, codes, decimal}
use Rattle.ledger_rows.specs.declared.operation.Op.TheVariants as ops
use Rattle.ledger_rows.specs.declared.reply.Reply.{Reply}
use Rattle.ledger_rows.specs.declared.reply.UserRead.{UserRead}
use Rattle.ledger_rows.specs.declared.rows.MailRow.{MailRow}
use Rattle.account_views.specs.Script.{Steps, Return, Ask}
use Rattle.site_commands.specs.Refusal.{code_of, refused_line}
use Rattle.site_commands.specs.ReplyReading.{active_fault, added_id, cleared_count, found_read, key_fault, member_fault, password_fault, taken_mail}
use Rattle.site_commands.specs.declared.refusal.Refusal.{Refusal}
use Rattle.site_commands.specs.declared.refusal.Refusal.TheVariants.{NameTaken, NoUser}
use Rattle.site_commands.specs.declared.said.Said.{Said}
use Rattle.site_commands.specs.declared.said.End.TheVariants.{Done, Refused}
use Rattle.site_commands.specs.declared.task.Task.{Task}
use Rattle.site_commands.specs.declared.task.Task.TheVariants as tasks

-- ---- what is said

-- the command was done
abbrev pub said_of : List ℕ → Said
said_of text = record { text = text; end = Done }

-- the command was refused
abbrev pub refusal : Refusal → Said
refusal fault = record { text = refused_line (code_of fault); end = Refused }

-- the line, where the command wasn't refused
abbrev pub done_by : List ℕ → Option Refusal → Said
done_by line None = said_of line
done_by line (Some fault) = refusal fault

-- the id of a new user
abbrev pub id_line : ℕ → List ℕ
id_line id = codes "id=" ++ decimal id ++ codes "\n"

-- how many sessions were removed
abbrev pub cleared_line : ℕ → List ℕ
cleared_line count = codes "cleared=" ++ decimal count ++ codes "\n"

-- the address that a mail was written to
unfoldable pub to_part : List ℕ → List ℕ
to_part to = codes "to=" ++ to ++ codes " "

-- the link that it has
unfoldable pub link_part : List ℕ → List ℕ
link_part link = codes "link=" ++ link ++ codes "\n"

-- a mail: its address and its link
abbrev pub mail_line : MailRow → List ℕ
mail_line mail = to_part mail.to ++ link_part mail.link

-- ---- the steps, from the last to the first

-- a user was made, or the name is taken
abbrev pub after_adding : Option ℕ → Said
after_adding None = refusal NameTaken
after_adding (Some id) = said_of (id_line id)

-- the new password text, in place of the one that was found
abbrev pub after_finding : List ℕ → Option UserRead → Steps Said
after_finding fresh None = Return (refusal NoUser)
after_finding fresh (Some read) =
    Ask (ops.SetPassword read.row.id read.row.password fresh) (λ reply. Return (done_by (codes "changed\n") (password_fault reply)))

-- a mail was taken, and more may wait; or there was none, and the lines are said
abbrev pub after_mail : (List ℕ → Steps Said) → List ℕ → Option MailRow → Steps Said
after_mail go_on lines None = Return (said_of lines)
after_mail go_on lines (Some mail) = go_on (lines ++ mail_line mail)

-- at most so many more mails are taken, after these lines
unfoldable pub mailing : ℕ → List ℕ → Steps Said
mailing zero lines = Return (said_of lines)
mailing (suc more) lines = Ask ops.TakeMail (λ reply. after_mail (mailing more) lines (taken_mail reply))

-- as many as an audit list has entries at most
unfoldable pub all_mails : Steps Said
all_mails = mailing (2 ^ 62) []

abbrev pub script : Task → Steps Said
script (tasks.AddUser name email password superuser) = Ask (ops.AddUser name email password superuser) (λ reply. Return (after_adding (added_id reply)))
script (tasks.ChangePassword name fresh) = Ask (ops.FindUser name) (λ reply. after_finding fresh (found_read reply))
script (tasks.SetActive name active) = Ask (ops.SetActive name active) (λ reply. Return (done_by (codes "done\n") (active_fault reply)))
script (tasks.SetMembership name group member) =
    Ask (ops.SetMembership name group member) (λ reply. Return (done_by (codes "done\n") (member_fault reply)))
script (tasks.ClearSessions now) = Ask (ops.ClearExpired now) (λ reply. Return (said_of (cleared_line (cleared_count reply))))
script (tasks.RotateKey key) = Ask (ops.RotateKey key) (λ reply. Return (done_by (codes "done\n") (key_fault reply)))
script tasks.RetireKeys = Ask ops.RetireKeys (λ reply. Return (said_of (codes "done\n")))
script tasks.TakeMails = all_mails
