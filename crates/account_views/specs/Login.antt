-- `/login/`: GET and HEAD show a form; POST logs a user in, as Django's `LoginView`. The user is found, the password
-- checked, its text made anew where that is due, the moment of the login kept, and the session given to the user.
use Rattle.std.specs.Prelude.{ℕ, Bool, true, false, if◌then◌else◌, List, [], Option, Some, None, codes}
use Rattle.http_edge.specs.declared.form_field.Field.{Field}
use Rattle.pass_hashers.specs.PasswordText.{password_text}
use Rattle.ledger_rows.specs.declared.operation.Op.TheVariants.{FindUser, SetLastLogin, SetPassword}
use Rattle.ledger_rows.specs.declared.reply.Reply.{Reply}
use Rattle.ledger_rows.specs.declared.reply.Reply.TheVariants.{Done, User, Written}
use Rattle.ledger_rows.specs.declared.reply.UserRead.{UserRead}
use Rattle.auth_backends.specs.Authentication.{answer_of}
use Rattle.auth_backends.specs.SessionBox.{login_changed}
use Rattle.auth_backends.specs.declared.authentication.AuthAnswer.{AuthAnswer}
use Rattle.auth_backends.specs.declared.authentication.AuthAnswer.TheVariants.{Refused, WrongPassword, Yes}
use Rattle.auth_backends.specs.declared.session_box.SessionBox.{SessionBox}
use Rattle.middleware_chain.specs.Fields.{last_value}
use Rattle.account_views.specs.Basis.{Basis}
use Rattle.account_views.specs.LoginForm.{is_user_name, target_of}
use Rattle.account_views.specs.Page.{form_page, redirect_page}
use Rattle.account_views.specs.RandomTexts.{login_secret, new_salt}
use Rattle.account_views.specs.Script.{Steps, Return, Ask}
use Rattle.account_views.specs.declared.call.Call.{Call}
use Rattle.account_views.specs.declared.login.LoginCall.{LoginCall}
use Rattle.account_views.specs.declared.login.LoginStage.{LoginStage}
use Rattle.account_views.specs.declared.login.LoginStage.TheVariants.{Finding, Stamping, Upgrading}
use Rattle.account_views.specs.declared.login.LoginUser.{LoginUser}
use Rattle.account_views.specs.declared.page.Viewed.{Viewed}

-- ---- what the replies say

abbrev pub user_of : Reply → Option UserRead
user_of (User read) = read
user_of _ = None

abbrev pub written_hash : Reply → Option (List ℕ)
written_hash (Written auth_hash) = Some auth_hash
written_hash _ = None

abbrev pub is_done : Reply → Bool
is_done Done = true
is_done _ = false

-- ---- the steps, from the last to the first

-- nobody is logged in; the page doesn't say whether it was the name or the password
abbrev pub refusal : Basis → LoginCall → Viewed
refusal basis call = record { page = form_page basis.draw call.secret (codes "error=login\n"); session = call.session }

-- the session is the user's, and a CSRF secret from before the login is of no more use
abbrev pub welcome : Basis → LoginCall → LoginUser → Viewed
welcome basis call user = record {
  page = redirect_page call.target (Some (login_secret basis.draw));
  session = login_changed user.read user.backend call.session;
}

abbrev pub stamped : Basis → LoginCall → LoginUser → Bool → Viewed
stamped basis call user done = if done then welcome basis call user else refusal basis call

-- the moment of the login is kept
abbrev pub stamping : Basis → LoginCall → LoginUser → Steps Viewed
stamping basis call user = Ask (SetLastLogin user.read.row.id basis.facts.moment) (λ reply. Return (stamped basis call user (is_done reply)))

-- with the hash that a session of the user is to keep from now on
abbrev pub with_hash : List ℕ → LoginUser → LoginUser
with_hash hash user = record user { read = record user.read { auth_hash = hash } }

-- where the text was written, this is the hash
abbrev pub upgraded : Basis → LoginCall → LoginUser → Option (List ℕ) → Steps Viewed
upgraded basis call user None = Return (refusal basis call)
upgraded basis call user (Some hash) = stamping basis call (with_hash hash user)

-- the text of the password that the preferred hasher makes
abbrev pub fresh_text : Basis → List ℕ → List ℕ
fresh_text basis password = password_text basis.settings.cfg.preferred password (new_salt basis.draw)

-- it takes the place of the text that was read, and of no other
abbrev pub upgrading : Basis → LoginCall → List ℕ → LoginUser → Steps Viewed
upgrading basis call password user =
    Ask (SetPassword user.read.row.id user.read.row.password (fresh_text basis password))
    (λ reply. upgraded basis call user (written_hash reply))

abbrev pub answered : Basis → LoginCall → List ℕ → UserRead → AuthAnswer → Steps Viewed
answered basis call password read (Yes backend true) = upgrading basis call password (record { read = read; backend = backend })
answered basis call password read (Yes backend false) = stamping basis call (record { read = read; backend = backend })
answered basis call password read WrongPassword = Return (refusal basis call)
answered basis call password read Refused = Return (refusal basis call)

-- a name without a row is answered as a wrong password
abbrev pub after_find : Basis → LoginCall → List ℕ → Option UserRead → Steps Viewed
after_find basis call password None = Return (refusal basis call)
after_find basis call password (Some read) = answered basis call password read (answer_of (Some read.row) password basis.settings.cfg)

-- no row has a name that isn't well formed
abbrev pub finding : Basis → LoginCall → List ℕ → List ℕ → Steps Viewed
finding basis call name password =
    if is_user_name name
    then Ask (FindUser name) (λ reply. after_find basis call password (user_of reply))
    else Return (refusal basis call)

-- what a login does from a stage on, once the reply is there
abbrev pub login_left : Basis → LoginStage → Reply → Steps Viewed
login_left basis (Finding call password) reply = after_find basis call password (user_of reply)
login_left basis (Upgrading call user) reply = upgraded basis call user (written_hash reply)
login_left basis (Stamping call user) reply = Return (stamped basis call user (is_done reply))

-- ---- the route

-- what a login keeps of its form and of the request
abbrev pub login_call : List Field → Option (List ℕ) → SessionBox → LoginCall
login_call fields secret session = record { target = target_of (last_value (codes "next") fields); secret = secret; session = session }

abbrev pub log_in : Basis → List Field → LoginCall → Steps Viewed
log_in basis fields call = finding basis call (last_value (codes "username") fields) (last_value (codes "password") fields)

abbrev pub login : Basis → Call → SessionBox → Steps Viewed
login basis call session =
    if call.post then log_in basis call.fields (login_call call.fields call.secret session)
    else Return (record { page = form_page basis.draw call.secret []; session = session })
