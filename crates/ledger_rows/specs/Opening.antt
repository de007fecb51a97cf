-- When the rows that a new store begins with are well formed. This project's own.
use Rattle.std.specs.Prelude.{◌≡◌, ◌^◌, ◌≤◌, ℕ, List, [], ◌∷◌, None, map}
use Rattle.std.specs.List.{All, Contains}
use Rattle.std.specs.List.Sorted.{IsStrictlyIncreasing}
use Rattle.crypto_text.specs.Moment.{IsMoment}
use Rattle.crypto_text.specs.TextList.{AreDifferent}
use Rattle.pass_hashers.specs.PasswordText.{IsPasswordText}
use Rattle.permissions.specs.PermissionSet.{name_of}
use Rattle.permissions.specs.declared.rows.GroupRow.{GroupRow}
use Rattle.permissions.specs.declared.rows.PermRow.{PermRow}
use Rattle.signing_core.specs.Keys.{IsKeys}
use Rattle.session_codec.specs.SessionMap.{auth_members}
use Rattle.session_codec.specs.SessionText.{text_of}
use Rattle.session_codec.specs.declared.session_text.SessionKind.TheVariants.{Stored}
use Rattle.ledger_rows.specs.Admission.{auth_hash}
use Rattle.ledger_rows.specs.Backends.{path_of}
use Rattle.ledger_rows.specs.Form.{IsEmail, IsPermissionWord, IsSessionKey, IsUserName}
use Rattle.ledger_rows.specs.declared.rows.Backend.{Backend}
use Rattle.ledger_rows.specs.declared.rows.Opening.{Opening}
use Rattle.ledger_rows.specs.declared.rows.SessionRow.{SessionRow}
use Rattle.ledger_rows.specs.declared.rows.UserRow.{UserRow}

abbrev pub ids_of_users : List UserRow → List ℕ
ids_of_users users = map (λ (row : UserRow). row.id) users

abbrev pub names_of_users : List UserRow → List (List ℕ)
names_of_users users = map (λ (row : UserRow). row.name) users

abbrev pub ids_of_groups : List GroupRow → List ℕ
ids_of_groups groups = map (λ (row : GroupRow). row.id) groups

abbrev pub names_of_groups : List GroupRow → List (List ℕ)
names_of_groups groups = map (λ (row : GroupRow). row.name) groups

abbrev pub ids_of_perms : List PermRow → List ℕ
ids_of_perms perms = map (λ (row : PermRow). row.id) perms

-- the names `app.codename`
abbrev pub names_of_perms : List PermRow → List (List ℕ)
names_of_perms perms = map name_of perms

abbrev pub keys_of_sessions : List SessionRow → List (List ℕ)
keys_of_sessions sessions = map (λ (row : SessionRow). row.key) sessions

-- from 1 to 2^32
pub record IsId (id : ℕ) : Type 0 where
  pub first : 1 ≤ id
  pub last : id ≤ 2 ^ 32

-- the ids of rows, in rising order
pub record AreRowIds (ids : List ℕ) : Type 0 where
  pub bounds : All IsId ids
  pub rising : IsStrictlyIncreasing ids

-- the id of a row that there is
unfoldable pub IsIdAmong : List ℕ → ℕ → Type 0
IsIdAmong row_ids id = Contains row_ids id

-- ids of rows that there are, in rising order
pub record AreIdsAmong (row_ids ids : List ℕ) : Type 0 where
  pub rising : IsStrictlyIncreasing ids
  pub present : All (IsIdAmong row_ids) ids

-- a user, by the ids of the groups and of the permissions that there are
pub record IsOpeningUser (group_ids perm_ids : List ℕ) (user : UserRow) : Type 0 where
  pub name : IsUserName user.name
  pub email : IsEmail user.email
  pub password : IsPasswordText user.password
  pub no_login : user.last_login ≡ None
  pub groups : AreIdsAmong group_ids user.groups
  pub perms : AreIdsAmong perm_ids user.perms

pub record AreOpeningUsers (group_ids perm_ids : List ℕ) (users : List UserRow) : Type 0 where
  pub ids : AreRowIds (ids_of_users users)
  pub names : AreDifferent (names_of_users users)
  pub rows : All (IsOpeningUser group_ids perm_ids) users

-- a group, by the ids of the permissions that there are; its name is any text
unfoldable pub IsOpeningGroup : List ℕ → GroupRow → Type 0
IsOpeningGroup perm_ids group = AreIdsAmong perm_ids group.perms

pub record AreOpeningGroups (perm_ids : List ℕ) (groups : List GroupRow) : Type 0 where
  pub ids : AreRowIds (ids_of_groups groups)
  pub names : AreDifferent (names_of_groups groups)
  pub rows : All (IsOpeningGroup perm_ids) groups

pub record IsOpeningPerm (perm : PermRow) : Type 0 where
  pub app : IsPermissionWord perm.app
  pub codename : IsPermissionWord perm.codename

pub record AreOpeningPerms (perms : List PermRow) : Type 0 where
  pub ids : AreRowIds (ids_of_perms perms)
  pub names : AreDifferent (names_of_perms perms)
  pub rows : All IsOpeningPerm perms

-- the text of a session that a user began by a backend at a moment, signed under a key: it holds the login alone
abbrev pub login_text : UserRow → Backend → List ℕ → ℕ → List ℕ
login_text user backend key moment = text_of Stored (auth_members user.id (path_of backend) (auth_hash user.password key)) (key ∷ []) moment

-- the text is that of a user of the opening, under a key of the opening
pub record IsLoginText (opening : Opening) (text : List ℕ) : Type 0 where
  pub user : UserRow
  pub backend : Backend
  pub key : List ℕ
  pub moment : ℕ
  pub listed : Contains opening.users user
  pub held : Contains opening.keys key
  pub began : IsMoment moment
  pub whole : text ≡ login_text user backend key moment

pub record IsOpeningSession (opening : Opening) (row : SessionRow) : Type 0 where
  pub key : IsSessionKey row.key
  pub expire : IsMoment row.expire
  pub text : IsLoginText opening row.text

-- what a store may begin with
pub record IsOpening (opening : Opening) : Type 0 where
  pub keys : IsKeys opening.keys
  pub users : AreOpeningUsers (ids_of_groups opening.groups) (ids_of_perms opening.perms) opening.users
  pub groups : AreOpeningGroups (ids_of_perms opening.perms) opening.groups
  pub perms : AreOpeningPerms opening.perms
  pub session_keys : AreDifferent (keys_of_sessions opening.sessions)
  pub sessions : All (IsOpeningSession opening) opening.sessions
