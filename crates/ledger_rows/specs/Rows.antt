-- Which rows a store may hold. This project's own.
use Rattle.std.specs.Prelude.{◌<◌, ◌^◌, ⊤, ℕ, Option, None, Some}
use Rattle.std.specs.List.{All}
use Rattle.std.specs.List.Sorted.{IsStrictlyIncreasing}
use Rattle.crypto_text.specs.Moment.{IsMoment}
use Rattle.crypto_text.specs.TextList.{AreDifferent}
use Rattle.pass_hashers.specs.PasswordText.{IsPasswordText}
use Rattle.permissions.specs.declared.rows.GroupRow.{GroupRow}
use Rattle.permissions.specs.declared.rows.PermRow.{PermRow}
use Rattle.ledger_rows.specs.Form.{IsEmail, IsPermissionWord, IsSessionKey, IsUserName}
use Rattle.ledger_rows.specs.Opening.{ids_of_groups, ids_of_perms, ids_of_users, names_of_users}
use Rattle.ledger_rows.specs.Tables.{Tables}
use Rattle.ledger_rows.specs.declared.rows.MailRow.{MailRow}
use Rattle.ledger_rows.specs.declared.rows.SessionRow.{SessionRow}
use Rattle.ledger_rows.specs.declared.rows.UserRow.{UserRow}

-- an id, or the number of a start
abbrev pub IsNumber : ℕ → Type 0
IsNumber n = n < 2 ^ 62

-- a moment, or none
abbrev pub IsLastLogin : Option ℕ → Type 0
IsLastLogin None = ⊤
IsLastLogin (Some moment) = IsMoment moment

pub record IsSoundUser (user : UserRow) : Type 0 where
  pub id : IsNumber user.id
  pub name : IsUserName user.name
  pub email : IsEmail user.email
  pub password : IsPasswordText user.password
  pub last_login : IsLastLogin user.last_login
  pub groups : All IsNumber user.groups
  pub perms : All IsNumber user.perms

-- a group's name is any text
pub record IsSoundGroup (group : GroupRow) : Type 0 where
  pub id : IsNumber group.id
  pub perms : All IsNumber group.perms

pub record IsSoundPerm (perm : PermRow) : Type 0 where
  pub id : IsNumber perm.id
  pub app : IsPermissionWord perm.app
  pub codename : IsPermissionWord perm.codename

-- a session's text is any text
abbrev pub IsSoundSession : SessionRow → Type 0
IsSoundSession row = IsSessionKey row.key

-- a mail's link is any text
pub record IsSoundMail (mail : MailRow) : Type 0 where
  pub id : IsNumber mail.id
  pub to : IsEmail mail.to

-- all rows of the tables are sound; the next ids may have just run out
pub record AreSound (tables : Tables) : Type 0 where
  pub users : All IsSoundUser tables.users
  pub groups : All IsSoundGroup tables.groups
  pub perms : All IsSoundPerm tables.perms
  pub sessions : All IsSoundSession tables.sessions
  pub mails : All IsSoundMail tables.mails
  pub boot : IsNumber tables.boot

-- the id was given before the next one
abbrev pub IsUserBefore : ℕ → UserRow → Type 0
IsUserBefore next user = user.id < next

abbrev pub IsMailBefore : ℕ → MailRow → Type 0
IsMailBefore next mail = mail.id < next

-- rows stand in the order of their ids, no two users have one name, and the next ids are above those that were given
pub record AreInOrder (tables : Tables) : Type 0 where
  pub users : IsStrictlyIncreasing (ids_of_users tables.users)
  pub names : AreDifferent (names_of_users tables.users)
  pub groups : IsStrictlyIncreasing (ids_of_groups tables.groups)
  pub perms : IsStrictlyIncreasing (ids_of_perms tables.perms)
  pub next_user : All (IsUserBefore tables.next_user) tables.users
  pub next_mail : All (IsMailBefore tables.next_mail) tables.mails
