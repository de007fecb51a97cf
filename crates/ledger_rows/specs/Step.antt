-- What an operation does to the state, and its reply. This project's own.
use Rattle.std.specs.Prelude.{◌≡◌, ℕ, ◌+◌, ◌^◌, ◌≤◌, ◌<◌, false, List, [], None, Some, Option, codes, length}
use Rattle.serde_json.specs.Data.{Members}
use Rattle.crypto_text.specs.Moment.{IsMoment}
use Rattle.signing_core.specs.Keys.{HasKeyLength, key_at, retired}
use Rattle.session_codec.specs.SessionText.{payload_of}
use Rattle.reset_tokens.specs.TokenVerdict.{token_verdict}
use Rattle.reset_tokens.specs.declared.reset_token.ResetVerdict.{ResetVerdict}
use Rattle.reset_tokens.specs.declared.reset_token.ResetVerdict.TheVariants.{Expired, Mismatch, Shape, Valid}
use Rattle.ledger_rows.specs.State.{State, rows_of}
use Rattle.ledger_rows.specs.Tables.{Tables, first_mail, group_named, user_named, user_of, without_session}
use Rattle.pass_hashers.specs.PasswordText.{IsPasswordText}
use Rattle.ledger_rows.specs.Form.{IsEmail, IsSessionKey, IsUserName}
use Rattle.ledger_rows.specs.Replies.{IsPayload}
use Rattle.ledger_rows.specs.KeySteps.{is_full, is_held, keys_by, rotate_reply}
use Rattle.ledger_rows.specs.MailSteps.{mailed_users, put_mails, reset_mails, reset_row, without_first}
use Rattle.ledger_rows.specs.UserSteps.{add_reply, added, has_name, id_of_group, membership_reply, new_user, next_after_adding, password_reply, perms_reply, regrouped, repassworded, rewritten, row_reply, with_active, with_last_login}
use Rattle.ledger_rows.specs.SessionSteps.{count_expired, create_reply, created, cycle_reply, cycled, has_session, save_reply, saved, without_expired, written_row}
use Rattle.ledger_rows.specs.Admission.{auth_hash, found_map, found_text, found_user, verdict_on}
use Rattle.ledger_rows.specs.declared.rows.Backend.{Backend}
use Rattle.ledger_rows.specs.declared.rows.Engine.{Engine}
use Rattle.ledger_rows.specs.declared.rows.Cfg.{Cfg}
use Rattle.ledger_rows.specs.declared.rows.MailRow.{MailRow}
use Rattle.ledger_rows.specs.declared.rows.SessionRow.{SessionRow}
use Rattle.ledger_rows.specs.declared.rows.UserRow.{UserRow}
use Rattle.ledger_rows.specs.declared.operation.Op.{Op}
use Rattle.ledger_rows.specs.declared.operation.Op.TheVariants.{AddUser, Boot, CheckReset, ClearExpired, Create, Cycle, Delete, FindUser, Load, MakeReset, Perms, RetireKeys, RotateKey, Save, SetActive, SetLastLogin, SetMembership, SetPassword, TakeMail}
use Rattle.ledger_rows.specs.declared.reply.Reply.{Reply}
use Rattle.ledger_rows.specs.declared.reply.Reply.TheVariants.{BadToken, Booted, Cleared, Done, Good, Loaded, Mail, Mailed, NoRow, User}
use Rattle.ledger_rows.specs.declared.reply.UserRead.{UserRead}
use Rattle.ledger_rows.specs.declared.verdict.Verdict.{Verdict}
use Rattle.ledger_rows.specs.declared.verdict.Verdict.TheVariants.{NoCookie, NotStored, Corrupt, NoAuth, BadBackend, NoUser, Inactive, BadHash, Admitted}

-- ---- the state that an operation leaves, table by table

abbrev pub keys_after : Op → Tables → List (List ℕ)
keys_after (RotateKey key) tables = keys_by tables.keys key (is_held tables.keys key) (is_full tables.keys)
keys_after RetireKeys tables = retired tables.keys
keys_after _ tables = tables.keys

abbrev pub users_after : Op → Tables → List UserRow
users_after (SetPassword user expected fresh) tables = repassworded tables.users (user_of tables.users user) expected fresh
users_after (SetLastLogin user now) tables = rewritten tables.users (user_of tables.users user) (with_last_login now)
users_after (AddUser name email password superuser) tables =
    added tables.users (has_name tables.users name) (new_user tables.next_user name email password superuser)
users_after (SetActive name active) tables = rewritten tables.users (user_named tables.users name) (with_active active)
users_after (SetMembership name group member) tables =
    regrouped tables.users (user_named tables.users name) (id_of_group (group_named tables.groups group)) member
users_after _ tables = tables.users

abbrev pub sessions_after : Engine → Op → Tables → List SessionRow
sessions_after engine (Create key payload seconds now) tables = created tables.sessions (written_row tables.keys key payload seconds now)
sessions_after engine (Save key payload seconds now) tables = saved tables.sessions (written_row tables.keys key payload seconds now)
sessions_after engine (Cycle old key payload seconds now) tables = cycled tables.sessions old (written_row tables.keys key payload seconds now)
sessions_after engine (Delete key) tables = without_session tables.sessions key
sessions_after engine (ClearExpired now) tables = without_expired tables.sessions now
sessions_after engine _ tables = tables.sessions

-- a start empties the cache
abbrev pub cache_after : Engine → Op → State → List SessionRow
cache_after engine Boot state = []
cache_after engine _ state = state.cache

abbrev pub mails_after : Op → Tables → List MailRow
mails_after (MakeReset email now) tables = put_mails tables.mails (reset_mails tables.keys now tables.next_mail (mailed_users tables.users email))
mails_after TakeMail tables = without_first tables.mails
mails_after _ tables = tables.mails

abbrev pub boot_after : Op → Tables → ℕ
boot_after Boot tables = tables.boot + 1
boot_after _ tables = tables.boot

abbrev pub next_user_after : Op → Tables → ℕ
next_user_after (AddUser name email password superuser) tables = next_after_adding tables.next_user (has_name tables.users name)
next_user_after _ tables = tables.next_user

abbrev pub next_mail_after : Op → Tables → ℕ
next_mail_after (MakeReset email now) tables = tables.next_mail + length (mailed_users tables.users email)
next_mail_after _ tables = tables.next_mail

abbrev pub tables_after : Engine → Op → Tables → Tables
tables_after engine op tables = record {
  keys = keys_after op tables;
  users = users_after op tables;
  groups = tables.groups;
  perms = tables.perms;
  sessions = sessions_after engine op tables;
  mails = mails_after op tables;
  boot = boot_after op tables;
  next_user = next_user_after op tables;
  next_mail = next_mail_after op tables;
}

-- the state that an operation leaves
abbrev pub state_after : Engine → Op → State → State
state_after engine op state = record { tables = tables_after engine op state.tables; cache = cache_after engine op state }

-- ---- replies

-- the map of a session that holds nothing, as JSON
abbrev pub empty_payload : List ℕ
empty_payload = codes "{}"

-- a session's map as JSON
abbrev pub payload_in : Option Members → List ℕ
payload_in None = empty_payload
payload_in (Some map) = payload_of map

-- the cookie, where a session's text was found under it
abbrev pub stored_key : Option (List ℕ) → Option (List ℕ) → Option (List ℕ)
stored_key cookie None = None
stored_key cookie (Some text) = cookie

-- a user with the hash that a session of it is to keep
abbrev pub user_read : List (List ℕ) → UserRow → UserRead
user_read keys row = record { row = row; auth_hash = auth_hash row.password (key_at keys 0) }

abbrev pub read_in : List (List ℕ) → Option UserRow → Option UserRead
read_in keys None = None
read_in keys (Some row) = Some (user_read keys row)

-- the user, where the verdict admits
abbrev pub admitted_user : Verdict → List (List ℕ) → Option UserRow → Option UserRead
admitted_user NoCookie keys user = None
admitted_user NotStored keys user = None
admitted_user Corrupt keys user = None
admitted_user NoAuth keys user = None
admitted_user BadBackend keys user = None
admitted_user NoUser keys user = None
admitted_user Inactive keys user = None
admitted_user BadHash keys user = None
admitted_user (Admitted index) keys user = read_in keys user

-- the reply to a load, by the cookie and what was found for it
abbrev pub answer_on : List Backend → List (List ℕ) → Option (List ℕ) → Option (List ℕ) → Option Members → Option UserRow → Reply
answer_on backends keys cookie text map user =
    Loaded (verdict_on backends keys cookie text map user) (stored_key cookie text) (payload_in map)
    (admitted_user (verdict_on backends keys cookie text map user) keys user)

-- the reply to a load in a state
abbrev pub loaded : Cfg → State → Option (List ℕ) → ℕ → Reply
loaded cfg state cookie now =
    answer_on cfg.backends state.tables.keys cookie (found_text cfg.engine state cookie now) (found_map cfg.engine state cookie now)
    (found_user cfg.engine state cookie now)

-- the reply to a check of a token, by what the token is
abbrev pub token_reply : List (List ℕ) → UserRow → ResetVerdict → Reply
token_reply keys row Valid = Good (user_read keys row)
token_reply keys row Shape = BadToken Shape
token_reply keys row Mismatch = BadToken Mismatch
token_reply keys row (Expired age) = BadToken (Expired age)

abbrev pub check_reply : List (List ℕ) → Option UserRow → List ℕ → ℕ → Reply
check_reply keys None token now = NoRow
check_reply keys (Some row) token now = token_reply keys row (token_verdict (reset_row row) keys token now)

-- the reply to an operation in a state
abbrev pub reply_to : Cfg → Op → State → Reply
reply_to cfg Boot state = Booted (state.tables.boot + 1)
reply_to cfg (Load cookie now) state = loaded cfg state cookie now
reply_to cfg (Create key payload seconds now) state = create_reply key (has_session (rows_of cfg.engine state) key)
reply_to cfg (Save key payload seconds now) state = save_reply key (has_session (rows_of cfg.engine state) key)
reply_to cfg (Cycle old key payload seconds now) state =
    cycle_reply key (has_session (rows_of cfg.engine state) old) (has_session (rows_of cfg.engine state) key)
reply_to cfg (Delete key) state = Done
reply_to cfg (ClearExpired now) state = Cleared (count_expired state.tables.sessions now)
reply_to cfg (FindUser name) state = User (read_in state.tables.keys (user_named state.tables.users name))
reply_to cfg (SetPassword user expected fresh) state = password_reply state.tables.keys (user_of state.tables.users user) expected fresh
reply_to cfg (SetLastLogin user now) state = row_reply (user_of state.tables.users user)
reply_to cfg (AddUser name email password superuser) state = add_reply state.tables.next_user (has_name state.tables.users name)
reply_to cfg (SetActive name active) state = row_reply (user_named state.tables.users name)
reply_to cfg (SetMembership name group member) state =
    membership_reply (user_named state.tables.users name) (id_of_group (group_named state.tables.groups group))
reply_to cfg (Perms user) state = perms_reply (user_of state.tables.users user) state.tables.groups state.tables.perms
reply_to cfg (RotateKey key) state = rotate_reply (is_held state.tables.keys key) (is_full state.tables.keys)
reply_to cfg RetireKeys state = Done
reply_to cfg (MakeReset email now) state = Mailed (length (mailed_users state.tables.users email))
reply_to cfg (CheckReset user token now) state = check_reply state.tables.keys (user_of state.tables.users user) token now
reply_to cfg TakeMail state = Mail (first_mail state.tables.mails)

-- how long a session may last: from a second to a hundred years of 365 days
pub record IsLifetime (seconds : ℕ) : Type 0 where
  pub least : 1 ≤ seconds
  pub most : seconds ≤ 3153600000

-- a session may be written with this payload, for so long from now on
pub record IsWriting (payload : List ℕ) (seconds now : ℕ) : Type 0 where
  pub map : IsPayload payload
  pub lifetime : IsLifetime seconds
  pub moment : IsMoment now

-- a session may be begun under a key
pub record IsBeginning (key payload : List ℕ) (seconds now : ℕ) : Type 0 where
  pub form : IsSessionKey key
  pub writing : IsWriting payload seconds now

-- a user may be made
pub record IsNewUser (name email password : List ℕ) : Type 0 where
  pub name_form : IsUserName name
  pub email_form : IsEmail email
  pub password_form : IsPasswordText password

-- mails to an address may be asked for
pub record IsAsking (email : List ℕ) (now : ℕ) : Type 0 where
  pub form : IsEmail email
  pub moment : IsMoment now

-- the operations that may be done: a start, or one whose texts and numbers are well formed
abbrev pub IsOperation : Op → Type 0
IsOperation Boot = Unit {0}
IsOperation (Load cookie now) = IsMoment now
IsOperation (Create key payload seconds now) = IsBeginning key payload seconds now
IsOperation (Save key payload seconds now) = IsWriting payload seconds now
IsOperation (Cycle old key payload seconds now) = IsBeginning key payload seconds now
IsOperation (Delete key) = Unit {0}
IsOperation (ClearExpired now) = IsMoment now
IsOperation (FindUser name) = IsUserName name
IsOperation (SetPassword user expected fresh) = IsPasswordText fresh
IsOperation (SetLastLogin user now) = IsMoment now
IsOperation (AddUser name email password superuser) = IsNewUser name email password
IsOperation (SetActive name active) = IsUserName name
IsOperation (SetMembership name group member) = IsUserName name
IsOperation (Perms user) = Unit {0}
IsOperation (RotateKey key) = HasKeyLength key
IsOperation RetireKeys = Unit {0}
IsOperation (MakeReset email now) = IsAsking email now
IsOperation (CheckReset user token now) = IsMoment now
IsOperation TakeMail = Unit {0}

-- an operation that draws ids would draw one that is no number any more
abbrev pub RunsOut : Op → Tables → Type 0
RunsOut (AddUser name email password superuser) tables = (has_name tables.users name ≡ false) × (2 ^ 62 ≤ tables.next_user)
RunsOut (MakeReset email now) tables = 2 ^ 62 < tables.next_mail + length (mailed_users tables.users email)
RunsOut _ tables = ⊥
