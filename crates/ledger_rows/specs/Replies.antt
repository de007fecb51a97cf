-- What the reply to an operation is whatever the store holds. This project's own.
use Rattle.std.specs.Prelude.{◌≡◌, ◌≢◌, ⊤, ℕ, List, Option, None, Some}
use Rattle.serde_json.specs.Data.{Members}
use Rattle.session_codec.specs.SessionMap.{IsSession}
use Rattle.session_codec.specs.SessionText.{payload_of}
use Rattle.reset_tokens.specs.declared.reset_token.ResetVerdict.TheVariants.{Valid}
use Rattle.pass_hashers.specs.PasswordText.{IsPasswordText}
use Rattle.ledger_rows.specs.Rows.{IsNumber, IsSoundMail, IsSoundUser}
use Rattle.ledger_rows.specs.declared.rows.MailRow.{MailRow}
use Rattle.ledger_rows.specs.declared.operation.Op.{Op}
use Rattle.ledger_rows.specs.declared.operation.Op.TheVariants.{AddUser, Boot, CheckReset, ClearExpired, Create, Cycle, Delete, FindUser, Load, MakeReset, Perms, RetireKeys, RotateKey, Save, SetActive, SetLastLogin, SetMembership, SetPassword, TakeMail}
use Rattle.ledger_rows.specs.declared.reply.Reply.{Reply}
use Rattle.ledger_rows.specs.declared.reply.Reply.TheVariants.{Added, BadToken, Booted, Cleared, Differs, Done, Gone, Good, KeyHeld, Loaded, Mail, Mailed, NameTaken, NoGroup, NoRow, Perms as PermsReply, Stored, Taken, TooManyKeys, User, Written}
use Rattle.ledger_rows.specs.declared.reply.UserRead.{UserRead}

-- the text is the JSON of a map that a session may have
pub record IsPayload (text : List ℕ) : Type 0 where
  pub map : Members
  pub held : IsSession map
  pub whole : text ≡ payload_of map

-- the row of a user, where there is one, is sound
abbrev pub IsSoundRead : Option UserRead → Type 0
IsSoundRead None = ⊤
IsSoundRead (Some read) = IsSoundUser read.row

-- the mail, where there is one, is sound
abbrev pub IsSoundFound : Option MailRow → Type 0
IsSoundFound None = ⊤
IsSoundFound (Some mail) = IsSoundMail mail

-- the reply to a load
pub record IsLoadedReply (text : List ℕ) (found : Option UserRead) : Type 0 where
  pub payload : IsPayload text
  pub user : IsSoundRead found

-- the reply is of the operation's kind; a payload in it is one, and the rows in it are sound
abbrev pub IsReplyOf : Op → Reply → Type 0
IsReplyOf Boot (Booted boot) = IsNumber boot
IsReplyOf (Load cookie now) (Loaded verdict key payload user) = IsLoadedReply payload user
IsReplyOf (Create key payload seconds now) Taken = ⊤
IsReplyOf (Create key payload seconds now) (Stored cookie) = ⊤
IsReplyOf (Save key payload seconds now) Gone = ⊤
IsReplyOf (Save key payload seconds now) (Stored cookie) = ⊤
IsReplyOf (Cycle old key payload seconds now) Gone = ⊤
IsReplyOf (Cycle old key payload seconds now) Taken = ⊤
IsReplyOf (Cycle old key payload seconds now) (Stored cookie) = ⊤
IsReplyOf (Delete key) Done = ⊤
IsReplyOf (ClearExpired now) (Cleared count) = ⊤
IsReplyOf (FindUser name) (User found) = IsSoundRead found
IsReplyOf (SetPassword user expected fresh) NoRow = ⊤
IsReplyOf (SetPassword user expected fresh) (Differs present) = IsPasswordText present
IsReplyOf (SetPassword user expected fresh) (Written hash) = ⊤
IsReplyOf (SetLastLogin user now) NoRow = ⊤
IsReplyOf (SetLastLogin user now) Done = ⊤
IsReplyOf (AddUser name email password superuser) NameTaken = ⊤
IsReplyOf (AddUser name email password superuser) (Added id) = IsNumber id
IsReplyOf (SetActive name active) NoRow = ⊤
IsReplyOf (SetActive name active) Done = ⊤
IsReplyOf (SetMembership name group member) NoRow = ⊤
IsReplyOf (SetMembership name group member) NoGroup = ⊤
IsReplyOf (SetMembership name group member) Done = ⊤
IsReplyOf (Perms user) NoRow = ⊤
IsReplyOf (Perms user) (PermsReply set) = ⊤
IsReplyOf (RotateKey key) KeyHeld = ⊤
IsReplyOf (RotateKey key) TooManyKeys = ⊤
IsReplyOf (RotateKey key) Done = ⊤
IsReplyOf RetireKeys Done = ⊤
IsReplyOf (MakeReset email now) (Mailed count) = ⊤
IsReplyOf (CheckReset user token now) NoRow = ⊤
IsReplyOf (CheckReset user token now) (BadToken verdict) = verdict ≢ Valid
IsReplyOf (CheckReset user token now) (Good read) = IsSoundUser read.row
IsReplyOf TakeMail (Mail found) = IsSoundFound found
IsReplyOf _ _ = ⊥
