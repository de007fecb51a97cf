-- What is first in every script, and how many steps each part asks for.
use Rattle.std.proofs.Common.{◌≡◌, ℕ, zero, suc, Bool, true, false, ◌&&◌, not, List, Option, Some, None, is_some, ap, arith}
use Rattle.http_edge.specs.declared.request.Request.{Request}
use Rattle.http_edge.specs.declared.response.Response.{Response}
use Rattle.ledger_rows.specs.declared.operation.Op.{Op}
use Rattle.ledger_rows.specs.declared.operation.Op.TheVariants.{Load}
use Rattle.ledger_rows.specs.declared.reply.Reply.{Reply}
use Rattle.ledger_rows.specs.declared.reply.UserRead.{UserRead}
use Rattle.ledger_rows.specs.declared.rows.UserRow.{UserRow}
use Rattle.auth_backends.specs.Authentication.{answer_of}
use Rattle.auth_backends.specs.declared.authentication.AuthAnswer.{AuthAnswer}
use Rattle.auth_backends.specs.declared.authentication.AuthAnswer.TheVariants.{Refused, WrongPassword, Yes}
use Rattle.auth_backends.specs.declared.session_box.SessionBox.{SessionBox}
use Rattle.middleware_chain.proofs.BegunLemmas.{begun_of-is}
use Rattle.middleware_chain.specs.Begun.{begun_of}
use Rattle.middleware_chain.specs.Context.{context_of}
use Rattle.middleware_chain.specs.Refusal.{refusal_page}
use Rattle.middleware_chain.specs.RequestCookie.{session_cookie}
use Rattle.middleware_chain.specs.declared.begun.Begun.{Begun}
use Rattle.middleware_chain.specs.declared.begun.Begun.TheVariants.{Answer, Go}
use Rattle.middleware_chain.specs.declared.route.Route.{Route}
use Rattle.middleware_chain.specs.declared.route.Route.TheVariants.{Login, Logout, PasswordChange, Session, Whoami}
use Rattle.account_views.specs.Basis.{Basis}
use Rattle.account_views.specs.Handler.{after_load, call_of, request_basis, script, script_of}
use Rattle.account_views.specs.Laws.{LoadIsFirst, StepsAreFew}
use Rattle.account_views.specs.Login.{after_find, answered, finding, login, login_call, upgraded, user_of, written_hash}
use Rattle.account_views.specs.LoginForm.{is_user_name}
use Rattle.account_views.specs.PasswordChange.{change_by, checked, form_fault, password_change}
use Rattle.account_views.specs.Script.{Steps, Return, Ask}
use Rattle.account_views.specs.SessionWrite.{after_delete, after_try, attempt_by, deleting, holds_nothing, placing, saved, written}
use Rattle.account_views.specs.View.{has_view, view, view_at}
use Rattle.account_views.specs.Visit.{visit_of}
use Rattle.account_views.specs.Walk.{AtMost}
use Rattle.account_views.specs.declared.call.Call.{Call}
use Rattle.account_views.specs.declared.login.LoginCall.{LoginCall}
use Rattle.account_views.specs.declared.login.LoginUser.{LoginUser}
use Rattle.account_views.specs.declared.password_change.ChangeFault.{ChangeFault}
use Rattle.account_views.specs.declared.page.Viewed.{Viewed}
use Rattle.account_views.specs.declared.session_write.Attempt.{Attempt}
use Rattle.account_views.specs.declared.session_write.Attempt.TheVariants.{KeyTaken, SessionGone, Written}
use Rattle.account_views.specs.declared.visit.Visit.{Visit}
use Rattle.account_views.proofs.WalkLemmas.{AtMost-and_then, AtMost-more, either}

-- ---- the first step

asked : Steps Response → Option Op
asked (Return response) = None
asked (Ask op rest) = Some op

-- the first step of a script is the load with this cookie
LoadsFirst : Basis → Option (List ℕ) → Steps Response → Type 0
LoadsFirst basis cookie script = (op : Op) (rest : Reply → Steps Response) → script ≡ Ask op rest → op ≡ Load cookie basis.facts.moment

loads_first-return : (basis : Basis) (cookie : Option (List ℕ)) (response : Response) → LoadsFirst basis cookie (Return response)
unfolding asked LoadsFirst
loads_first-return basis cookie response op rest e = let e' : None ≡ Some op = ap asked e in cc

loads_first-ask : (basis : Basis) (cookie : Option (List ℕ)) (rest : Reply → Steps Response) → LoadsFirst basis cookie (Ask (Load cookie basis.facts.moment) rest)
unfolding asked LoadsFirst
loads_first-ask basis cookie rest op other e = let e' : Some (Load cookie basis.facts.moment) ≡ Some op = ap asked e in cc

first_load : (basis : Basis) (r : Request) (route : Route) → LoadsFirst basis (session_cookie r.cookie) (script_of basis (Go (context_of route r)))
unfolding context_of
first_load basis r route =
    either (LoadsFirst basis (session_cookie r.cookie)) (has_view route) _ _
    (loads_first-ask basis (session_cookie r.cookie) _) (loads_first-return basis (session_cookie r.cookie) _)

pub load_is_first : LoadIsFirst
unfolding LoadsFirst
load_is_first settings r moment draw =
    let basis : Basis = request_basis settings r moment draw in
    begun_of-is (λ begun. LoadsFirst basis (session_cookie r.cookie) (script_of basis begun)) settings r
    (λ refusal. loads_first-return basis (session_cookie r.cookie) (refusal_page refusal r)) (λ route. first_load basis r route)

-- ---- the session's write: a delete and sixteen tries

module _ (basis : Basis) (v : Viewed) where
  after_try-few : (attempt : Attempt) (more : Steps Response) (n : ℕ) → AtMost n more → AtMost n (after_try basis.settings basis.facts v attempt more)
  after_try-few (Written cookie) more n few = tt
  after_try-few KeyTaken more n few = few
  after_try-few SessionGone more n few = tt

  placing-few : (old : Option (List ℕ)) (left : ℕ) → AtMost left (placing basis v old left)
  unfolding placing
  placing-few old zero = tt
  placing-few old (suc left) = λ reply. after_try-few (attempt_by reply) (placing basis v old left) left (placing-few old left)

  saved-few : (key : Option (List ℕ)) → AtMost 16 (saved basis v key)
  saved-few None = placing-few None 16
  saved-few (Some key) = either (AtMost 16) v.session.cycle _ _ (placing-few (Some key) 16) (λ reply. tt)

  after_delete-few : AtMost 16 (after_delete basis v)
  after_delete-few = either (AtMost 16) (v.session.modified && not (holds_nothing v.session)) _ _ (saved-few v.session.key) tt

  deleting-few : (dropped : Option (List ℕ)) → AtMost 17 (deleting basis v dropped)
  deleting-few None = AtMost-more 16 17 (omega arith) (after_delete basis v) after_delete-few
  deleting-few (Some key) = λ reply. after_delete-few

-- ---- the views: at most three steps

module _ (basis : Basis) (call : LoginCall) (password : List ℕ) where
  upgraded-few : (user : LoginUser) (hash : Option (List ℕ)) → AtMost 1 (upgraded basis call user hash)
  upgraded-few user None = tt
  upgraded-few user (Some hash) = λ reply. tt

  answered-few : (read : UserRead) (answer : AuthAnswer) → AtMost 2 (answered basis call password read answer)
  answered-few read (Yes backend true) = λ reply. upgraded-few (record { read = read; backend = backend }) (written_hash reply)
  answered-few read (Yes backend false) = λ reply. tt
  answered-few read WrongPassword = tt
  answered-few read Refused = tt

  after_find-few : (found : Option UserRead) → AtMost 2 (after_find basis call password found)
  after_find-few None = tt
  after_find-few (Some read) = answered-few read (answer_of (Some read.row) password basis.settings.cfg)

  finding-few : (name : List ℕ) → AtMost 3 (finding basis call name password)
  finding-few name = either (AtMost 3) (is_user_name name) _ _ (λ reply. after_find-few (user_of reply)) tt

login-few : (basis : Basis) (call : Call) (session : SessionBox) → AtMost 3 (login basis call session)
login-few basis call session = either (AtMost 3) call.post _ _ (finding-few basis (login_call call.fields call.secret session) _ _) tt

module _ (basis : Basis) (call : Call) (session : SessionBox) where
  checked-few : (row : UserRow) (password : List ℕ) (fault : Option ChangeFault) → AtMost 1 (checked basis.settings basis.draw call.secret row password session fault)
  checked-few row password None = λ reply. tt
  checked-few row password (Some fault) = tt

  change_by-few : (user : Option UserRead) → AtMost 1 (change_by basis.settings basis.draw call user session)
  change_by-few None = tt
  change_by-few (Some read) = either (AtMost 1) call.post _ _ (checked-few read.row _ (form_fault basis.settings read.row call.fields)) tt

change-few : (basis : Basis) (call : Call) (visit : Visit) → AtMost 3 (password_change basis.settings basis.draw call visit)
change-few basis call visit = AtMost-more 1 3 (omega arith) (password_change basis.settings basis.draw call visit) (change_by-few basis call visit.session visit.user)

view-few : (route : Route) (basis : Basis) (call : Call) (visit : Visit) → AtMost 3 (view_at route basis call visit)
view-few Whoami basis call visit = tt
view-few Login basis call visit = login-few basis call visit.session
view-few Logout basis call visit = tt
view-few Session basis call visit = tt
view-few PasswordChange basis call visit = change-few basis call visit
view-few _ basis call visit = tt

-- ---- the whole

after_load-few : (basis : Basis) (came : Bool) (call : Call) (reply : Reply) → AtMost 20 (after_load basis came call reply)
after_load-few basis came call reply =
    AtMost-and_then 3 17 20 (omega arith) (view basis call (visit_of came reply)) (view-few call.route basis call (visit_of came reply))
    (written basis) (λ v. deleting-few basis v v.session.dropped)

pub script_of-few : (basis : Basis) (begun : Begun) → AtMost 21 (script_of basis begun)
script_of-few basis (Answer response) = tt
script_of-few basis (Go context) =
    either (AtMost 21) (has_view context.route) _ _ (after_load-few basis (is_some context.session) (call_of context)) tt

pub steps_are_few : StepsAreFew
steps_are_few settings r moment draw = script_of-few (request_basis settings r moment draw) (begun_of settings r)
