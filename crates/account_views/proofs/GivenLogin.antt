-- A login leaves the session as it was, or with the login of the user that was found.
use Rattle.std.proofs.Common.{◌≡◌, ◌⊎◌, inl, inr, ℕ, ◌≤◌, zero, suc, true, false, decimal, option_and_then, List, Option, Some, None, length, refl, sym, subst, ap, ◌∙◌, arith}
use Rattle.serde_json.proofs.Views.{get_member-put, get_member-put_other}
use Rattle.serde_json.specs.Data.{Members, put, string}
use Rattle.serde_json.specs.Find.{as_str, get_member}
use Rattle.crypto_text.proofs.DecimalLemmas.{decimal_of-Some}
use Rattle.crypto_text.specs.Numeral.{positive_of}
use Rattle.session_codec.proofs.AuthLemmas.{auth_of-no_user}
use Rattle.session_codec.specs.SessionMap.{SessionAuth, auth_of, backend_name, hash_name, user_id_name}
use Rattle.ledger_rows.specs.Backends.{path_of}
use Rattle.ledger_rows.specs.Rows.{IsNumber}
use Rattle.ledger_rows.specs.declared.operation.Op.TheVariants.{FindUser, SetLastLogin, SetPassword}
use Rattle.ledger_rows.specs.declared.reply.Reply.{Reply}
use Rattle.ledger_rows.specs.declared.reply.Reply.TheVariants.{User, Written}
use Rattle.ledger_rows.specs.declared.reply.UserRead.{UserRead}
use Rattle.ledger_rows.specs.declared.rows.Backend.{Backend}
use Rattle.auth_backends.proofs.SessionBoxLemmas.{login_is_read}
use Rattle.auth_backends.specs.Authentication.{answer_of}
use Rattle.auth_backends.specs.SessionBox.{keeps_entries, kept_map, login_changed, with_names}
use Rattle.auth_backends.specs.declared.authentication.AuthAnswer.{AuthAnswer}
use Rattle.auth_backends.specs.declared.authentication.AuthAnswer.TheVariants.{Refused, WrongPassword, Yes}
use Rattle.auth_backends.specs.declared.session_box.SessionBox.{SessionBox}
use Rattle.account_views.specs.Basis.{Basis}
use Rattle.account_views.specs.Laws.{IsGiven, WritesGiven}
use Rattle.account_views.specs.Login.{after_find, answered, finding, fresh_text, is_done, login, login_call, refusal, stamping, upgraded, user_of, welcome, with_hash, written_hash}
use Rattle.account_views.specs.LoginForm.{is_user_name}
use Rattle.account_views.specs.Script.{Steps}
use Rattle.account_views.specs.Walk.{Event, IsReplyTo}
use Rattle.account_views.specs.declared.call.Call.{Call}
use Rattle.account_views.specs.declared.login.LoginCall.{LoginCall}
use Rattle.account_views.specs.declared.login.LoginUser.{LoginUser}
use Rattle.account_views.specs.declared.page.Viewed.{Viewed}
use Rattle.account_views.proofs.EveryLemmas.{Every, behind}
use Rattle.account_views.proofs.GivenLemmas.{Given, Sound, among_last, given_more}
use Rattle.account_views.proofs.WalkLemmas.{either}

-- ---- the login that is written

-- the id that is written is found
written_id : (id path hash : List ℕ) (map : Members) → get_member user_id_name (with_names id path hash map) ≡ Some (string id)
unfolding user_id_name backend_name hash_name
written_id id path hash map =
    get_member-put_other user_id_name hash_name (string hash) (put backend_name (string path) (put user_id_name (string id) map)) (λ same. omega (arith, ap length same))
    ∙ get_member-put_other user_id_name backend_name (string path) (put user_id_name (string id) map) (λ same. omega (arith, ap length same))
    ∙ get_member-put user_id_name (string id) map

no_id : positive_of (decimal 0) ≡ None
unfolding positive_of
no_id = rw (decimal_of-Some (decimal 0) 0 (refl, omega arith)) refl

-- nobody has the id 0
zero-login : (path hash : List ℕ) (map : Members) → auth_of (with_names (decimal 0) path hash map) ≡ None
zero-login path hash map =
    auth_of-no_user (with_names (decimal 0) path hash map) (ap (λ found. option_and_then positive_of (option_and_then as_str found)) (written_id (decimal 0) path hash map) ∙ no_id)

-- the login of a user by a backend
abbrev login_by : UserRead → List ℕ → Option SessionAuth
login_by read backend = Some (record { user = read.row.id; backend = backend; hash = read.auth_hash })

-- it was given, whichever the backend
abbrev IsGivenRead : List Event → UserRead → Type 0
IsGivenRead past read = (backend : List ℕ) → IsGiven past (login_by read backend)

some_or_none : (n : ℕ) → (1 ≤ n) ⊎ (n ≡ 0)
some_or_none zero = inr refl
some_or_none (suc n) = inl (omega arith)

login_changed-given : (past : List Event) (read : UserRead) (backend : Backend) (session : SessionBox) → IsNumber read.row.id → IsGivenRead past read
    → IsGiven past (auth_of (login_changed read backend session).map)
login_changed-given past read backend session number given = elim (some_or_none read.row.id) [
  | inl some ↦ subst (IsGiven past) (sym (login_is_read read backend session some (omega (arith, number)))) (given (path_of backend))
  | inr none ↦ subst (IsGiven past)
      (sym (ap (λ (id : ℕ). auth_of (with_names (decimal id) (path_of backend) read.auth_hash (kept_map (keeps_entries read session.map) session.map))) none
      ∙ zero-login (path_of backend) read.auth_hash (kept_map (keeps_entries read session.map) session.map))) tt
]

-- ---- the steps

abbrev pub IsGivenView : List Event → Steps Viewed → Type 0
IsGivenView past script = Every Sound WritesGiven Given past script

-- so was the login of the session that came
abbrev Came : LoginCall → List Event → Type 0
Came call past = IsGiven past (auth_of call.session.map)

module _ (basis : Basis) (call : LoginCall) where
  stamping-given : (past : List Event) (user : LoginUser) → Came call past → IsNumber user.read.row.id → IsGivenRead past user.read → IsGivenView past (stamping basis call user)
  stamping-given past user came number given =
      let op = SetLastLogin user.read.row.id basis.facts.moment in (
        tt,
        λ reply sound. either (Given (behind past op reply)) (is_done reply) (welcome basis call user) (refusal basis call)
            (login_changed-given (behind past op reply) user.read user.backend call.session number (λ backend. given_more past op reply (login_by user.read backend) (given backend)))
            (given_more past op reply (auth_of call.session.map) came),
      )

  upgraded-given : (past : List Event) (user : LoginUser) (expected fresh : List ℕ) (reply : Reply) → Came call past → IsNumber user.read.row.id
      → IsGivenView (behind past (SetPassword user.read.row.id expected fresh) reply) (upgraded basis call user (written_hash reply))
  upgraded-given past user expected fresh (Written hash) came number =
      stamping-given _ (with_hash hash user) (given_more past _ _ (auth_of call.session.map) came) number (λ backend. among_last _ past _ (refl, refl))
  upgraded-given past user expected fresh _ came number = given_more past _ _ (auth_of call.session.map) came

  answered-given : (past : List Event) (password : List ℕ) (read : UserRead) (answer : AuthAnswer) → Came call past → IsNumber read.row.id → IsGivenRead past read
      → IsGivenView past (answered basis call password read answer)
  answered-given past password read (Yes backend true) came number given =
      (tt, λ reply sound. upgraded-given past (record { read = read; backend = backend }) read.row.password (fresh_text basis password) reply came number)
  answered-given past password read (Yes backend false) came number given = stamping-given past (record { read = read; backend = backend }) came number given
  answered-given past password read WrongPassword came number given = came
  answered-given past password read Refused came number given = came

  found-given : (past : List Event) (name password : List ℕ) (reply : Reply) → Came call past → IsReplyTo (FindUser name) reply
      → IsGivenView (behind past (FindUser name) reply) (after_find basis call password (user_of reply))
  found-given past name password (User None) came may = given_more past _ _ (auth_of call.session.map) came
  found-given past name password (User (Some read)) came may =
      answered-given _ password read (answer_of (Some read.row) password basis.settings.cfg) (given_more past _ _ (auth_of call.session.map) came) may.kind.id
      (λ backend. among_last _ past _ (refl, refl))
  found-given past name password _ came may = given_more past _ _ (auth_of call.session.map) came

  finding-given : (past : List Event) (name password : List ℕ) → Came call past → IsGivenView past (finding basis call name password)
  finding-given past name password came =
      either (IsGivenView past) (is_user_name name) _ _ (tt, λ reply sound. found-given past name password reply came sound.0) came

pub login-given : (basis : Basis) (call : Call) (session : SessionBox) (past : List Event) → IsGiven past (auth_of session.map) → IsGivenView past (login basis call session)
login-given basis call session past given =
    either (IsGivenView past) call.post _ _ (finding-given basis (login_call call.fields call.secret session) past _ _ given) given
