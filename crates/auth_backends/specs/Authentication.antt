-- Who a password lets in: Django's `django.contrib.auth.authenticate`, over `ModelBackend` and `AllowAllUsersModelBackend`.
use Rattle.std.specs.Prelude.{◌≡◌, ◌↔◌, ℕ, List, [], ◌∷◌, IsTrue, Option, Some, None, if◌then◌else◌}
use Rattle.pass_hashers.specs.PasswordText.{IsOutdated, Verifies}
use Rattle.ledger_rows.specs.Admission.{admits}
use Rattle.ledger_rows.specs.declared.rows.Backend.{Backend}
use Rattle.ledger_rows.specs.declared.rows.Cfg.{Cfg}
use Rattle.ledger_rows.specs.declared.rows.UserRow.{UserRow}
use Rattle.auth_backends.specs.PasswordReading.{is_outdated, verifies}
use Rattle.auth_backends.specs.declared.authentication.AuthAnswer.{AuthAnswer}
use Rattle.auth_backends.specs.declared.authentication.AuthAnswer.TheVariants.{Yes, WrongPassword, Refused}

-- the first of AUTHENTICATION_BACKENDS whose `user_can_authenticate` holds of the user: of ModelBackend's where the user is
-- active, of AllowAllUsersModelBackend's always
abbrev pub admitting_backend : List Backend → UserRow → Option Backend
admitting_backend [] user = None
admitting_backend (backend ∷ backends) user = if admits backend user then Some backend else admitting_backend backends user

-- the answer to a password for a user whom a backend admits: Django's `check_password`, and its `must_update` where the
-- password is right
abbrev pub IsPasswordAnswer : UserRow → Backend → List ℕ → Cfg → AuthAnswer → Type 0
IsPasswordAnswer user admitting password cfg (Yes backend upgrade) =
    (backend ≡ admitting) × Verifies password user.password cfg.installed × (IsTrue upgrade ↔ IsOutdated user.password cfg.preferred)
IsPasswordAnswer user admitting password cfg WrongPassword = ¬ Verifies password user.password cfg.installed
IsPasswordAnswer user admitting password cfg Refused = ⊥

-- the answer to a password for a user, by the backend that admits the user
abbrev pub IsBackendAnswer : UserRow → Option Backend → List ℕ → Cfg → AuthAnswer → Type 0
IsBackendAnswer user None password cfg answer = answer ≡ Refused
IsBackendAnswer user (Some backend) password cfg answer = IsPasswordAnswer user backend password cfg answer

-- the answer to a name and a password, by the row that has the name: refused without a row, as Django's ModelBackend
-- returns None where no user is found
abbrev pub IsAnswer : Option UserRow → List ℕ → Cfg → AuthAnswer → Type 0
IsAnswer None password cfg answer = answer ≡ Refused
IsAnswer (Some user) password cfg answer = IsBackendAnswer user (admitting_backend cfg.backends user) password cfg answer

-- ---- the same answer as a function

-- the answer to a password for a user whom the backend admits
abbrev pub password_answer_of : UserRow → Backend → List ℕ → Cfg → AuthAnswer
password_answer_of user backend password cfg =
    if verifies password user.password cfg.installed then Yes backend (is_outdated user.password cfg.preferred) else WrongPassword

-- the answer to a password for a user, by the backend that admits the user
abbrev pub backend_answer_of : UserRow → Option Backend → List ℕ → Cfg → AuthAnswer
backend_answer_of user None password cfg = Refused
backend_answer_of user (Some backend) password cfg = password_answer_of user backend password cfg

-- the answer to a name and a password, by the row that has the name
unfoldable pub answer_of : Option UserRow → List ℕ → Cfg → AuthAnswer
answer_of None password cfg = Refused
answer_of (Some user) password cfg = backend_answer_of user (admitting_backend cfg.backends user) password cfg
