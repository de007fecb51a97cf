-- What follows from the definitions.
use Rattle.std.specs.Prelude.{◌≡◌, ◌≢◌, ◌↔◌, ◌⊎◌, ℕ, ◌^◌, ◌<◌, ◌≤◌, List, All, Contains, Bool, true, false, Option, Some, None, decimal}
use Rattle.pass_hashers.specs.PasswordText.{Verifies}
use Rattle.serde_json.specs.Data.{Members}
use Rattle.serde_json.specs.Find.{get_member}
use Rattle.session_codec.specs.SessionMap.{SessionAuth, auth_of, backend_name, hash_name, text_at, user_id_name}
use Rattle.ledger_rows.specs.Admission.{admits}
use Rattle.ledger_rows.specs.Backends.{path_of}
use Rattle.ledger_rows.specs.declared.reply.UserRead.{UserRead}
use Rattle.ledger_rows.specs.declared.rows.Backend.{Backend}
use Rattle.ledger_rows.specs.declared.rows.Backend.TheVariants.{Model}
use Rattle.ledger_rows.specs.declared.rows.Cfg.{Cfg}
use Rattle.ledger_rows.specs.declared.rows.UserRow.{UserRow}
use Rattle.auth_backends.specs.Authentication.{IsAnswer, answer_of}
use Rattle.auth_backends.specs.SessionBox.{flushed, kept_hash, login_changed, rehashed}
use Rattle.auth_backends.specs.declared.authentication.AuthAnswer.{AuthAnswer}
use Rattle.auth_backends.specs.declared.authentication.AuthAnswer.TheVariants.{Yes, WrongPassword, Refused}
use Rattle.auth_backends.specs.declared.session_box.SessionBox.{SessionBox}

-- ---- who a password lets in

-- there are no two answers
abbrev pub AnswerIsOne : Type 0
AnswerIsOne = (row : Option UserRow) (password : List ℕ) (cfg : Cfg) (first second : AuthAnswer)
    → IsAnswer row password cfg first → IsAnswer row password cfg second → first ≡ second

-- and there is one, which is the function's
abbrev pub AnswerOfIsAnswer : Type 0
AnswerOfIsAnswer = (row : Option UserRow) (password : List ℕ) (cfg : Cfg) → IsAnswer row password cfg (answer_of row password cfg)

-- a password lets a user in by a backend: there is the user's row, the backend is configured and admits the user, and the
-- password is the one of the row's text
pub record LetsIn (row : Option UserRow) (password : List ℕ) (cfg : Cfg) (backend : Backend) : Type 0 where
  pub user : UserRow
  pub found : row ≡ Some user
  pub configured : Contains cfg.backends backend
  pub admitted : admits backend user ≡ true
  pub right : Verifies password user.password cfg.installed

-- who gets in was let in
abbrev pub YesIsEarned : Type 0
YesIsEarned = (row : Option UserRow) (password : List ℕ) (cfg : Cfg) (backend : Backend) (upgrade : Bool)
    → IsAnswer row password cfg (Yes backend upgrade) → LetsIn row password cfg backend

-- who is let in by some backend gets in, by that one or by an earlier one
abbrev pub EarnedIsYes : Type 0
EarnedIsYes = (row : Option UserRow) (password : List ℕ) (cfg : Cfg) (backend : Backend) (answer : AuthAnswer)
    → LetsIn row password cfg backend → IsAnswer row password cfg answer
    → (first : Backend) × (upgrade : Bool) × (answer ≡ Yes first upgrade)

-- a password is wrong exactly where a configured backend admits the user, and the password isn't the one of the row's text
abbrev pub WrongPasswordIsExact : Type 0
WrongPasswordIsExact = (row : Option UserRow) (password : List ℕ) (cfg : Cfg) → IsAnswer row password cfg WrongPassword
    ↔ ((user : UserRow) × (backend : Backend) × (row ≡ Some user) × Contains cfg.backends backend × (admits backend user ≡ true) × ¬ Verifies password user.password cfg.installed)

-- a login is refused exactly where no configured backend admits the user of the row, as where there is no row
abbrev pub RefusedIsExact : Type 0
RefusedIsExact = (row : Option UserRow) (password : List ℕ) (cfg : Cfg) → IsAnswer row password cfg Refused
    ↔ ((user : UserRow) (backend : Backend) → row ≡ Some user → Contains cfg.backends backend → admits backend user ≡ false)

-- ModelBackend alone refuses an inactive user, whatever the password
abbrev pub InactiveIsRefused : Type 0
InactiveIsRefused = (user : UserRow) (password : List ℕ) (cfg : Cfg) (answer : AuthAnswer) → user.active ≡ false → All (λ backend. backend ≡ Model) cfg.backends
    → IsAnswer (Some user) password cfg answer → answer ≡ Refused

-- ---- sessions

-- the user is logged in here, with the hash that the session is to keep
abbrev pub IsLoginOf : UserRead → Members → Type 0
IsLoginOf read map = (text_at user_id_name map ≡ Some (decimal read.row.id)) × (kept_hash map ≡ read.auth_hash)

-- the user is logged in here, or nobody is
abbrev pub IsFor : UserRead → Members → Type 0
IsFor read map = (get_member user_id_name map ≡ None) ⊎ IsLoginOf read map

-- none of the names of a login
abbrev pub IsOtherName : List ℕ → Type 0
IsOtherName name = (name ≢ user_id_name) × (name ≢ backend_name) × (name ≢ hash_name)

-- after a login the session says who logged in, by which backend and with which hash
abbrev pub LoginIsRead : Type 0
LoginIsRead = (read : UserRead) (backend : Backend) (session : SessionBox) → 1 ≤ read.row.id → read.row.id < 2 ^ 64
    → auth_of (login_changed read backend session).map ≡ Some (record { user = read.row.id; backend = path_of backend; hash = read.auth_hash })

-- a login keeps the other entries where the user is logged in already, or nobody is; else it keeps none
abbrev pub LoginKeepsOwnEntries : Type 0
LoginKeepsOwnEntries = (read : UserRead) (backend : Backend) (session : SessionBox) (name : List ℕ) → IsOtherName name
    → (IsFor read session.map → get_member name (login_changed read backend session).map ≡ get_member name session.map)
    × ((¬ IsFor read session.map) → get_member name (login_changed read backend session).map ≡ None)

-- where the user wasn't logged in already, the session is stored under a new key, or has none and its old one is deleted: a
-- key from before the login is of no use (session fixation)
abbrev pub LoginChangesKey : Type 0
LoginChangesKey = (read : UserRead) (backend : Backend) (session : SessionBox) (key : List ℕ) → session.key ≡ Some key → ¬ IsLoginOf read session.map
    → ((login_changed read backend session).cycle ≡ true)
    ⊎ (((login_changed read backend session).key ≡ None) × ((login_changed read backend session).dropped ≡ Some key))

-- after a logout nobody is logged in, and no entry is left
abbrev pub LogoutLeavesNothing : Type 0
LogoutLeavesNothing = (session : SessionBox) (name : List ℕ) → (auth_of (flushed session).map ≡ None) × (get_member name (flushed session).map ≡ None)

-- a new hash leaves the user and the backend of a login
abbrev pub RehashKeepsLogin : Type 0
RehashKeepsLogin = (hash : List ℕ) (session : SessionBox) (auth : SessionAuth) → auth_of session.map ≡ Some auth
    → auth_of (rehashed hash session).map ≡ Some (record auth { hash = hash })
