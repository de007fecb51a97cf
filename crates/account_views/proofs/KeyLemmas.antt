-- New session keys are those of the tries.
use Rattle.std.proofs.Common.{ℕ, Bool, true, false, List, [], ◌∷◌, Option, Some, None, is_some, refl}
use Rattle.http_edge.specs.declared.response.Response.{Response}
use Rattle.ledger_rows.specs.declared.operation.Op.{Op}
use Rattle.ledger_rows.specs.declared.operation.Op.TheVariants.{Load}
use Rattle.ledger_rows.specs.declared.reply.Reply.{Reply}
use Rattle.ledger_rows.specs.declared.reply.UserRead.{UserRead}
use Rattle.ledger_rows.specs.declared.rows.UserRow.{UserRow}
use Rattle.auth_backends.specs.Authentication.{answer_of}
use Rattle.auth_backends.specs.declared.authentication.AuthAnswer.{AuthAnswer}
use Rattle.auth_backends.specs.declared.authentication.AuthAnswer.TheVariants.{Refused, WrongPassword, Yes}
use Rattle.auth_backends.specs.declared.session_box.SessionBox.{SessionBox}
use Rattle.middleware_chain.specs.Begun.{begun_of}
use Rattle.middleware_chain.specs.declared.begun.Begun.{Begun}
use Rattle.middleware_chain.specs.declared.begun.Begun.TheVariants.{Answer, Go}
use Rattle.middleware_chain.specs.declared.route.Route.{Route}
use Rattle.middleware_chain.specs.declared.route.Route.TheVariants.{Login, Logout, PasswordChange, Session, Whoami}
use Rattle.account_views.specs.Basis.{Basis}
use Rattle.account_views.specs.Handler.{after_load, call_of, request_basis, script, script_of}
use Rattle.account_views.specs.Laws.{HasTryKey, IsTryKey, KeysAreDrawn}
use Rattle.account_views.specs.Login.{after_find, answered, finding, login, login_call, upgraded, user_of, written_hash}
use Rattle.account_views.specs.LoginForm.{is_user_name}
use Rattle.account_views.specs.PasswordChange.{change_by, checked, form_fault}
use Rattle.account_views.specs.RandomTexts.{session_key}
use Rattle.account_views.specs.SessionWrite.{placing_op, written}
use Rattle.account_views.specs.View.{has_view, view, view_at}
use Rattle.account_views.specs.Visit.{visit_of}
use Rattle.account_views.specs.Walk.{AreAll, Event}
use Rattle.account_views.specs.declared.call.Call.{Call}
use Rattle.account_views.specs.declared.login.LoginCall.{LoginCall}
use Rattle.account_views.specs.declared.login.LoginUser.{LoginUser}
use Rattle.account_views.specs.declared.password_change.ChangeFault.{ChangeFault}
use Rattle.account_views.specs.declared.page.Viewed.{Viewed}
use Rattle.account_views.specs.declared.visit.Visit.{Visit}
use Rattle.account_views.proofs.EveryLemmas.{Every, Every-and_then, behind, fine_at}
use Rattle.account_views.proofs.WalkLemmas.{either}
use Rattle.account_views.proofs.WriteLemmas.{EverySent, IsFineWrite, every-written}

-- any reply may come
abbrev Any : Event → Type 0
Any event = Unit {0}

abbrev Drawn : Basis → List Event → Op → Type 0
Drawn basis past op = HasTryKey basis.draw op

-- any end will do
abbrev Ended : List Event → Viewed → Type 0
Ended past v = Unit {0}

abbrev Sent : Response → Type 0
Sent response = Unit {0}

-- ---- the session's write

placing-drawn : (basis : Basis) (v : Viewed) (old : Option (List ℕ)) (key : List ℕ) → IsTryKey basis.draw key → HasTryKey basis.draw (placing_op basis.facts v old key)
placing-drawn basis v None key drawn = drawn
placing-drawn basis v (Some old) key drawn = drawn

drawn-write : (basis : Basis) (v : Viewed) → IsFineWrite basis v (λ past. Unit {0}) (Drawn basis) Sent
drawn-write basis v = record {
  stays = λ past op reply holds. tt;
  deletes = λ past key. tt;
  places = λ past old number below holds. placing-drawn basis v old (session_key basis.draw number) (number, below, refl);
  saves = λ past key holds. tt;
  keeps = tt;
  stores = λ cookie. tt;
  goes = tt;
  fails = tt;
}

written-drawn : (basis : Basis) (v : Viewed) (past : List Event) → EverySent Any (Drawn basis) Sent past (written basis v)
written-drawn basis v past = every-written basis v Any (λ past. Unit {0}) (Drawn basis) Sent (drawn-write basis v) past tt

-- ---- the views

-- no step of a login has a new key
module _ (basis : Basis) (call : LoginCall) (password : List ℕ) where
  upgraded-drawn : (past : List Event) (user : LoginUser) (hash : Option (List ℕ)) → Every Any (Drawn basis) Ended past (upgraded basis call user hash)
  upgraded-drawn past user None = tt
  upgraded-drawn past user (Some hash) = (tt, λ reply sound. tt)

  answered-drawn : (past : List Event) (read : UserRead) (answer : AuthAnswer) → Every Any (Drawn basis) Ended past (answered basis call password read answer)
  answered-drawn past read (Yes backend true) = (tt, λ reply sound. upgraded-drawn _ (record { read = read; backend = backend }) (written_hash reply))
  answered-drawn past read (Yes backend false) = (tt, λ reply sound. tt)
  answered-drawn past read WrongPassword = tt
  answered-drawn past read Refused = tt

  after_find-drawn : (past : List Event) (found : Option UserRead) → Every Any (Drawn basis) Ended past (after_find basis call password found)
  after_find-drawn past None = tt
  after_find-drawn past (Some read) = answered-drawn past read (answer_of (Some read.row) password basis.settings.cfg)

  finding-drawn : (past : List Event) (name : List ℕ) → Every Any (Drawn basis) Ended past (finding basis call name password)
  finding-drawn past name = either (Every Any (Drawn basis) Ended past) (is_user_name name) _ _ (tt, λ reply sound. after_find-drawn _ (user_of reply)) tt

login-drawn : (basis : Basis) (call : Call) (session : SessionBox) (past : List Event) → Every Any (Drawn basis) Ended past (login basis call session)
login-drawn basis call session past =
    either (Every Any (Drawn basis) Ended past) call.post _ _ (finding-drawn basis (login_call call.fields call.secret session) _ past _) tt

-- nor has that of a change of password
module _ (basis : Basis) (call : Call) (session : SessionBox) (past : List Event) where
  checked-drawn : (row : UserRow) (password : List ℕ) (fault : Option ChangeFault)
      → Every Any (Drawn basis) Ended past (checked basis.settings basis.draw call.secret row password session fault)
  checked-drawn row password None = (tt, λ reply sound. tt)
  checked-drawn row password (Some fault) = tt

  change_by-drawn : (user : Option UserRead) → Every Any (Drawn basis) Ended past (change_by basis.settings basis.draw call user session)
  change_by-drawn None = tt
  change_by-drawn (Some read) =
      either (Every Any (Drawn basis) Ended past) call.post _ _ (checked-drawn read.row _ (form_fault basis.settings read.row call.fields)) tt

view-drawn : (route : Route) (basis : Basis) (call : Call) (visit : Visit) (past : List Event) → Every Any (Drawn basis) Ended past (view_at route basis call visit)
view-drawn Whoami basis call visit past = tt
view-drawn Login basis call visit past = login-drawn basis call visit.session past
view-drawn Logout basis call visit past = tt
view-drawn Session basis call visit past = tt
view-drawn PasswordChange basis call visit past = change_by-drawn basis call visit.session past visit.user
view-drawn _ basis call visit past = tt

-- ---- the whole

after_load-drawn : (basis : Basis) (came : Bool) (call : Call) (reply : Reply) (past : List Event) → EverySent Any (Drawn basis) Sent past (after_load basis came call reply)
after_load-drawn basis came call reply past =
    let visit = visit_of came reply in
    Every-and_then Any (Drawn basis) Ended (λ later response. Sent response) past (view basis call visit) (written basis)
    (view-drawn call.route basis call visit past) (λ later v ended. written-drawn basis v later)

every-drawn : (basis : Basis) (begun : Begun) → EverySent Any (Drawn basis) Sent [] (script_of basis begun)
every-drawn basis (Answer response) = tt
every-drawn basis (Go context) =
    let op = Load context.session basis.facts.moment in
    either (EverySent Any (Drawn basis) Sent []) (has_view context.route) _ _
    (tt, λ reply sound. after_load-drawn basis (is_some context.session) (call_of context) reply (behind [] op reply)) tt

any_reply : (events : List Event) → AreAll Any events
any_reply [] = tt
any_reply (event ∷ events) = (tt, any_reply events)

pub keys_are_drawn : KeysAreDrawn
keys_are_drawn settings r moment draw events op rest leads =
    let basis : Basis = request_basis settings r moment draw in
    fine_at Any (Drawn basis) (λ later response. Sent response) events [] (script settings r moment draw) op rest (every-drawn basis (begun_of settings r)) leads (any_reply events)
