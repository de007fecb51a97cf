-- What a command looks at in a reply. A reply of another kind than the step's, which the store never gives, is read as the
-- last refusal of the command, or as nothing.
use Rattle.std.specs.Prelude.{ℕ, Option, None, Some}
use Rattle.ledger_rows.specs.declared.reply.Reply.{Reply}
use Rattle.ledger_rows.specs.declared.reply.Reply.TheVariants.{Added, Cleared, Done, KeyHeld as KeyWasHeld, Mail, NoRow, User, Written}
use Rattle.ledger_rows.specs.declared.reply.UserRead.{UserRead}
use Rattle.ledger_rows.specs.declared.rows.MailRow.{MailRow}
use Rattle.site_commands.specs.declared.refusal.Refusal.{Refusal}
use Rattle.site_commands.specs.declared.refusal.Refusal.TheVariants.{ChangedMeanwhile, KeyHeld, NoGroup, NoUser, TooManyKeys}

-- the id of a user who was made; none where the name is taken
abbrev pub added_id : Reply → Option ℕ
added_id (Added id) = Some id
added_id _ = None

-- the user of a name
abbrev pub found_read : Reply → Option UserRead
found_read (User read) = read
found_read _ = None

-- why a password wasn't written
abbrev pub password_fault : Reply → Option Refusal
password_fault (Written auth_hash) = None
password_fault NoRow = Some NoUser
password_fault _ = Some ChangedMeanwhile

-- why a user wasn't made active or inactive
abbrev pub active_fault : Reply → Option Refusal
active_fault Done = None
active_fault _ = Some NoUser

-- why a user wasn't put into a group or taken out of it
abbrev pub member_fault : Reply → Option Refusal
member_fault Done = None
member_fault NoRow = Some NoUser
member_fault _ = Some NoGroup

-- why a key wasn't made the first
abbrev pub key_fault : Reply → Option Refusal
key_fault Done = None
key_fault KeyWasHeld = Some KeyHeld
key_fault _ = Some TooManyKeys

-- how many sessions were removed
abbrev pub cleared_count : Reply → ℕ
cleared_count (Cleared count) = count
cleared_count _ = 0

-- the mail that was taken
abbrev pub taken_mail : Reply → Option MailRow
taken_mail (Mail mail) = mail
taken_mail _ = None
