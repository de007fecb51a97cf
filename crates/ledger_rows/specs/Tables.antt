-- The tables of a store, each in one order. The tables are those of Django's auth and sessions applications; the order,
-- the mails and the numbers are this project's own.
use Rattle.std.specs.Prelude.{◌==◌, ◌+◌, ℕ, Bool, max, not, List, [], ◌∷◌, Option, None, Some, bytes_eq, filter, fold, if◌then◌else◌}
use Rattle.std.specs.Cmp.Lexicographic.{slice_cmp}
use Rattle.std.specs.Str.{str_eq_ignore_ascii_case}
use Rattle.std.specs.Ordering.{match_ordering, nat_cmp}
use Rattle.permissions.specs.declared.rows.GroupRow.{GroupRow}
use Rattle.permissions.specs.declared.rows.PermRow.{PermRow}
use Rattle.ledger_rows.specs.declared.rows.MailRow.{MailRow}
use Rattle.ledger_rows.specs.declared.rows.Opening.{Opening}
use Rattle.ledger_rows.specs.declared.rows.SessionRow.{SessionRow}
use Rattle.ledger_rows.specs.declared.rows.UserRow.{UserRow}

-- users, groups, permissions and mails in the order of their ids, sessions in the byte order of their keys
pub record Tables : Type 0 where
  -- the signing keys, the first key first
  pub keys : List (List ℕ)
  pub users : List UserRow
  pub groups : List GroupRow
  pub perms : List PermRow
  pub sessions : List SessionRow
  pub mails : List MailRow
  -- how many starts there were
  pub boot : ℕ
  -- the ids of the next user and of the next mail
  pub next_user : ℕ
  pub next_mail : ℕ

-- the user of an id
abbrev pub user_of : List UserRow → ℕ → Option UserRow
user_of [] id = None
user_of (user ∷ users) id = if user.id == id then Some user else user_of users id

-- the user of a name
abbrev pub user_named : List UserRow → List ℕ → Option UserRow
user_named [] name = None
user_named (user ∷ users) name = if bytes_eq user.name name then Some user else user_named users name

-- whether an address is the user's, in whatever case
abbrev pub has_email : List ℕ → UserRow → Bool
has_email email user = str_eq_ignore_ascii_case user.email email

-- the users of an address
abbrev pub users_of_email : List UserRow → List ℕ → List UserRow
users_of_email users email = filter (has_email email) users

-- the group of a name
abbrev pub group_named : List GroupRow → List ℕ → Option GroupRow
group_named [] name = None
group_named (group ∷ groups) name = if bytes_eq group.name name then Some group else group_named groups name

-- the first of the mails
abbrev pub first_mail : List MailRow → Option MailRow
first_mail [] = None
first_mail (mail ∷ mails) = Some mail

-- the session of a key
abbrev pub session_of : List SessionRow → List ℕ → Option SessionRow
session_of [] key = None
session_of (session ∷ sessions) key = if bytes_eq session.key key then Some session else session_of sessions key

-- the sessions with one more, or with it in place of the session of its key
abbrev pub put_session : List SessionRow → SessionRow → List SessionRow
put_session [] row = row ∷ []
put_session (first ∷ rest) row = match_ordering (slice_cmp nat_cmp first.key row.key) (first ∷ put_session rest row) (row ∷ rest) (row ∷ first ∷ rest)

-- the sessions but that of a key
abbrev pub without_session : List SessionRow → List ℕ → List SessionRow
without_session rows key = filter (λ (row : SessionRow). not (bytes_eq row.key key)) rows

-- the users with one more, or with it in place of the user of its id
abbrev pub put_user : List UserRow → UserRow → List UserRow
put_user [] row = row ∷ []
put_user (first ∷ rest) row = match_ordering (nat_cmp first.id row.id) (first ∷ put_user rest row) (row ∷ rest) (row ∷ first ∷ rest)

-- the mails with one more, or with it in place of the mail of its id
abbrev pub put_mail : List MailRow → MailRow → List MailRow
put_mail [] row = row ∷ []
put_mail (first ∷ rest) row = match_ordering (nat_cmp first.id row.id) (first ∷ put_mail rest row) (row ∷ rest) (row ∷ first ∷ rest)

-- the mails but that of an id
abbrev pub without_mail : List MailRow → ℕ → List MailRow
without_mail rows id = filter (λ (row : MailRow). not (row.id == id)) rows

-- sessions in the byte order of their keys; of two of one key the later stays
abbrev pub sorted_sessions : List SessionRow → List SessionRow
sorted_sessions rows = fold put_session [] rows

-- the greatest id of a user, 0 where there is no user
abbrev pub greatest_id : List UserRow → ℕ
greatest_id [] = 0
greatest_id (user ∷ users) = max user.id (greatest_id users)

-- what a new store holds
abbrev pub opening_tables : Opening → Tables
opening_tables opening = record {
  keys = opening.keys;
  users = opening.users;
  groups = opening.groups;
  perms = opening.perms;
  sessions = sorted_sessions opening.sessions;
  mails = [];
  boot = 0;
  next_user = greatest_id opening.users + 1;
  next_mail = 1;
}
