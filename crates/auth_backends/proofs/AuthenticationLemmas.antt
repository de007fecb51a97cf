-- What an answer to a password says, and that it is the only one.
use Rattle.std.proofs.Common.{◌≡◌, ◌↔◌, ◌∙◌, ℕ, suc, List, [], ◌∷◌, All, Contains, Bool, true, false, true≢false, Option, Some, None, refl, sym, ap, subst, arith}
use Rattle.std.specs.Prelude.{Decides, IsTrue, if◌then◌else◌}
use Rattle.std.proofs.lemmas.List.Elements.{All-head, All-tail}
use Rattle.std.proofs.lemmas.Map.Made.{Contains-tail}
use Rattle.std.proofs.lemmas.Option.{same_Some}
use Rattle.pass_hashers.specs.PasswordText.{IsOutdated, Verifies}
use Rattle.ledger_rows.specs.Admission.{admits}
use Rattle.ledger_rows.specs.declared.rows.Backend.{Backend}
use Rattle.ledger_rows.specs.declared.rows.Cfg.{Cfg}
use Rattle.ledger_rows.specs.declared.rows.UserRow.{UserRow}
use Rattle.ledger_rows.specs.declared.rows.Backend.TheVariants.{Model}
use Rattle.auth_backends.specs.Laws.{AnswerOfIsAnswer, EarnedIsYes, InactiveIsRefused, RefusedIsExact, WrongPasswordIsExact, YesIsEarned}
use Rattle.auth_backends.specs.Authentication.{IsAnswer, IsBackendAnswer, IsPasswordAnswer, admitting_backend, answer_of, backend_answer_of, password_answer_of}
use Rattle.auth_backends.specs.PasswordReading.{is_outdated, verifies}
use Rattle.auth_backends.proofs.PasswordReadingLemmas.{is_outdated-Decides, verifies-Decides}
use Rattle.auth_backends.specs.declared.authentication.AuthAnswer.{AuthAnswer}
use Rattle.auth_backends.specs.declared.authentication.AuthAnswer.TheVariants.{Yes, WrongPassword, Refused}

same_flag : (Q : Type 0) (first second : Bool) → (IsTrue first ↔ Q) → (IsTrue second ↔ Q) → first ≡ second
same_flag Q true true is other = refl
same_flag Q false false is other = refl
same_flag Q true false is other = absurd (cc (other.1 (is.0 refl)))
same_flag Q false true is other = absurd (cc (is.1 (other.0 refl)))

one_of_password : (user : UserRow) (backend : Backend) (password : List ℕ) (cfg : Cfg) (first second : AuthAnswer)
    → IsPasswordAnswer user backend password cfg first → IsPasswordAnswer user backend password cfg second → first ≡ second
one_of_password user backend password cfg (Yes one upgrade) (Yes two again) is other =
    let backends : one ≡ two = is.0 ∙ sym other.0 in
    let flags : upgrade ≡ again = same_flag (IsOutdated user.password cfg.preferred) upgrade again is.2 other.2 in
    ap (λ (b : Backend). Yes b upgrade) backends ∙ ap (Yes two) flags
one_of_password user backend password cfg (Yes one upgrade) WrongPassword is other = absurd (other is.1)
one_of_password user backend password cfg WrongPassword (Yes two again) is other = absurd (is other.1)
one_of_password user backend password cfg WrongPassword WrongPassword is other = refl
one_of_password user backend password cfg Refused second is other = absurd is
one_of_password user backend password cfg (Yes one upgrade) Refused is other = absurd other
one_of_password user backend password cfg WrongPassword Refused is other = absurd other

one_of_backend : (user : UserRow) (backend : Option Backend) (password : List ℕ) (cfg : Cfg) (first second : AuthAnswer)
    → IsBackendAnswer user backend password cfg first → IsBackendAnswer user backend password cfg second → first ≡ second
one_of_backend user None password cfg first second is other = is ∙ sym other
one_of_backend user (Some backend) password cfg first second is other = one_of_password user backend password cfg first second is other

pub one_answer : (row : Option UserRow) (password : List ℕ) (cfg : Cfg) (first second : AuthAnswer)
    → IsAnswer row password cfg first → IsAnswer row password cfg second → first ≡ second
one_answer None password cfg first second is other = is ∙ sym other
one_answer (Some user) password cfg first second is other = one_of_backend user (admitting_backend cfg.backends user) password cfg first second is other

-- ---- the answer as a function

password_answer_is : (user : UserRow) (backend : Backend) (password : List ℕ) (cfg : Cfg)
    → IsPasswordAnswer user backend password cfg (password_answer_of user backend password cfg)
password_answer_is user backend password cfg = by (verifies password user.password cfg.installed) refl
  where
    tells : Decides (verifies password user.password cfg.installed) (Verifies password user.password cfg.installed)
    tells = verifies-Decides password user.password cfg.installed

    by : (yes : Bool) → verifies password user.password cfg.installed ≡ yes
        → IsPasswordAnswer user backend password cfg (if yes then Yes backend (is_outdated user.password cfg.preferred) else WrongPassword)
    by true is = let right = tells.0 is in (refl, right, is_outdated-Decides password user.password cfg.installed cfg.preferred right)
    by false is = λ right. true≢false (sym (tells.1 right) ∙ is)

backend_answer_is : (user : UserRow) (backend : Option Backend) (password : List ℕ) (cfg : Cfg)
    → IsBackendAnswer user backend password cfg (backend_answer_of user backend password cfg)
backend_answer_is user None password cfg = refl
backend_answer_is user (Some backend) password cfg = password_answer_is user backend password cfg

pub answer_of_is_answer : AnswerOfIsAnswer
unfolding answer_of
answer_of_is_answer None password cfg = refl
answer_of_is_answer (Some user) password cfg = backend_answer_is user (admitting_backend cfg.backends user) password cfg

-- ---- the backend that admits

-- a backend is in the list and admits the user
abbrev Serves : List Backend → UserRow → Backend → Type 0
Serves backends user backend = Contains backends backend × (admits backend user ≡ true)

serves_later : (first : Backend) (backends : List Backend) (user : UserRow) (backend : Backend) → Serves backends user backend → Serves (first ∷ backends) user backend
serves_later first backends user backend is = ((suc is.0.0, omega (arith, is.0.1), is.0.2), is.1)

serves_first : (backends : List Backend) (user : UserRow) (backend : Backend) → admits backend user ≡ true → Serves (backend ∷ backends) user backend
serves_first backends user backend is = ((0, omega arith, refl), is)

admitting-serves : (backends : List Backend) (user : UserRow) (backend : Backend) → admitting_backend backends user ≡ Some backend → Serves backends user backend
admitting-serves [] user backend is = absurd (cc is)
admitting-serves (first ∷ backends) user backend is = on_first (admits first user) refl (admitting-serves backends user backend) is
  where
    on_first : (admitted : Bool) → admits first user ≡ admitted → (admitting_backend backends user ≡ Some backend → Serves backends user backend)
        → (if admitted then Some first else admitting_backend backends user) ≡ Some backend → Serves (first ∷ backends) user backend
    on_first true this later is = subst (λ (b : Backend). Serves (first ∷ backends) user b) (same_Some first backend is) (serves_first backends user first this)
    on_first false this later is = serves_later first backends user backend (later is)

-- some backend of the list is found
abbrev IsFound : Option Backend → Type 0
IsFound found = (backend : Backend) × (found ≡ Some backend)

serves-admitting : (backends : List Backend) (user : UserRow) (backend : Backend) → Serves backends user backend → IsFound (admitting_backend backends user)
serves-admitting [] user backend is = absurd (omega (arith, is.0.1))
serves-admitting (first ∷ backends) user backend is = on_first (admits first user) refl (serves-admitting backends user backend)
  where
    on_first : (admitted : Bool) → admits first user ≡ admitted → (Serves backends user backend → IsFound (admitting_backend backends user))
        → IsFound (if admitted then Some first else admitting_backend backends user)
    on_first true this later = (first, refl)
    on_first false this later =
        later (Contains-tail first backends backend (λ same. true≢false (sym is.1 ∙ ap (λ (b : Backend). admits b user) (sym same) ∙ this)) is.0, is.1)

-- ---- who gets in

yes_of_backend : (user : UserRow) (found : Option Backend) (password : List ℕ) (cfg : Cfg) (backend : Backend) (upgrade : Bool)
    → IsBackendAnswer user found password cfg (Yes backend upgrade) → (found ≡ Some backend) × Verifies password user.password cfg.installed
yes_of_backend user None password cfg backend upgrade is = absurd (cc is)
yes_of_backend user (Some found) password cfg backend upgrade is = (ap Some (sym is.0), is.1)

pub yes_is_earned : YesIsEarned
yes_is_earned None password cfg backend upgrade is = absurd (cc is)
yes_is_earned (Some user) password cfg backend upgrade is =
    let parts = yes_of_backend user (admitting_backend cfg.backends user) password cfg backend upgrade is in
    let serves = admitting-serves cfg.backends user backend parts.0 in
    record { user = user; found = refl; configured = serves.0; admitted = serves.1; right = parts.1 }

-- an answer that lets somebody in
abbrev IsYes : AuthAnswer → Type 0
IsYes answer = (backend : Backend) × (upgrade : Bool) × (answer ≡ Yes backend upgrade)

right_is_yes : (user : UserRow) (backend : Backend) (password : List ℕ) (cfg : Cfg) (answer : AuthAnswer) → Verifies password user.password cfg.installed
    → IsPasswordAnswer user backend password cfg answer → IsYes answer
right_is_yes user backend password cfg (Yes first upgrade) right is = (first, upgrade, refl)
right_is_yes user backend password cfg WrongPassword right is = absurd (is right)
right_is_yes user backend password cfg Refused right is = absurd is

earned_of_user : (user : UserRow) (password : List ℕ) (cfg : Cfg) (backend : Backend) (answer : AuthAnswer) → Serves cfg.backends user backend
    → Verifies password user.password cfg.installed → IsAnswer (Some user) password cfg answer → IsYes answer
earned_of_user user password cfg backend answer serves right is =
    let found = serves-admitting cfg.backends user backend serves in
    right_is_yes user found.0 password cfg answer right (subst (λ (o : Option Backend). IsBackendAnswer user o password cfg answer) found.1 is)

pub earned_is_yes : EarnedIsYes
earned_is_yes row password cfg backend answer lets is =
    earned_of_user lets.user password cfg backend answer (lets.configured, lets.admitted) lets.right
    (subst (λ (o : Option UserRow). IsAnswer o password cfg answer) lets.found is)

-- ---- who doesn't

-- a backend admits the user, and the password is wrong
abbrev IsWrong : UserRow → Option Backend → List ℕ → Cfg → Type 0
IsWrong user found password cfg = (backend : Backend) × (found ≡ Some backend) × ¬ Verifies password user.password cfg.installed

wrong_of_backend : (user : UserRow) (found : Option Backend) (password : List ℕ) (cfg : Cfg) → IsBackendAnswer user found password cfg WrongPassword ↔ IsWrong user found password cfg
wrong_of_backend user None password cfg = (λ is. absurd (cc is), λ is. absurd (cc is.1))
wrong_of_backend user (Some backend) password cfg = (λ is. (backend, refl, is), λ is. is.2)

pub wrong_password_is_exact : WrongPasswordIsExact
wrong_password_is_exact None password cfg = (λ is. absurd (cc is), λ is. absurd (cc is.2))
wrong_password_is_exact (Some user) password cfg =
    let by_backend = wrong_of_backend user (admitting_backend cfg.backends user) password cfg in (
      λ is.
          let wrong = by_backend.0 is in
          let serves = admitting-serves cfg.backends user wrong.0 wrong.1 in
          (user, wrong.0, refl, serves.0, serves.1, wrong.2),
      λ is. by_backend.1 (wrong_here is),
    )
  where
    wrong_here : ((named : UserRow) × (backend : Backend) × (Some user ≡ Some named) × Contains cfg.backends backend × (admits backend named ≡ true) × ¬ Verifies password named.password cfg.installed)
        → IsWrong user (admitting_backend cfg.backends user) password cfg
    wrong_here is =
        let same : is.0 ≡ user = sym (same_Some user is.0 is.2) in
        let admitted : admits is.1 user ≡ true = subst (λ (u : UserRow). admits is.1 u ≡ true) same is.4 in
        let found = serves-admitting cfg.backends user is.1 (is.3, admitted) in
        (found.0, found.1, subst (λ (u : UserRow). ¬ Verifies password u.password cfg.installed) same is.5)

refused_of_backend : (user : UserRow) (found : Option Backend) (password : List ℕ) (cfg : Cfg) → IsBackendAnswer user found password cfg Refused ↔ (found ≡ None)
refused_of_backend user None password cfg = (λ is. refl, λ is. refl)
refused_of_backend user (Some backend) password cfg = (λ is. absurd is, λ is. absurd (cc is))

not_true : (b : Bool) → ¬ (b ≡ true) → b ≡ false
not_true true never = absurd (never refl)
not_true false never = refl

-- none is found where none admits
none_of : (backends : List Backend) (user : UserRow) (found : Option Backend) → admitting_backend backends user ≡ found
    → ((backend : Backend) → Contains backends backend → admits backend user ≡ false) → found ≡ None
none_of backends user None is refuse = refl
none_of backends user (Some backend) is refuse =
    let serves = admitting-serves backends user backend is in
    absurd (true≢false (sym serves.1 ∙ refuse backend serves.0))

pub refused_is_exact : RefusedIsExact
refused_is_exact None password cfg = (λ is user backend named. absurd (cc named), λ refuse. refl)
refused_is_exact (Some user) password cfg =
    let by_backend = refused_of_backend user (admitting_backend cfg.backends user) password cfg in (
      λ is named backend same configured. not_true (admits backend named) (λ admitted.
          let found = serves-admitting cfg.backends user backend (configured, subst (λ (u : UserRow). admits backend u ≡ true) (sym (same_Some user named same)) admitted) in
          cc (by_backend.0 is, found.1)),
      λ refuse. by_backend.1 (none_of cfg.backends user (admitting_backend cfg.backends user) refl (λ backend configured. refuse user backend refl configured)),
    )

none_admits : (backends : List Backend) (user : UserRow) → user.active ≡ false → All (λ backend. backend ≡ Model) backends → admitting_backend backends user ≡ None
none_admits [] user inactive models = refl
none_admits (first ∷ backends) user inactive models =
    let this : admits first user ≡ false = ap (λ (b : Backend). admits b user) (All-head (λ backend. backend ≡ Model) first backends models) ∙ inactive in
    rw this (none_admits backends user inactive (All-tail (λ backend. backend ≡ Model) first backends models))

pub inactive_is_refused : InactiveIsRefused
inactive_is_refused user password cfg answer inactive models is =
    subst (λ (o : Option Backend). IsBackendAnswer user o password cfg answer) (none_admits cfg.backends user inactive models) is
