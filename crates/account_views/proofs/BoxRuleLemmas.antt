-- The box rule: each part of a script writes only logins that were given.
use Rattle.std.proofs.Common.{◌≡◌, inl, inr, ℕ, Bool, nat_lt, List, [], Option, Some, None, is_some, refl, sym, subst}
use Rattle.http_edge.specs.declared.response.Response.{Response}
use Rattle.session_codec.specs.SessionMap.{IsSession, SessionAuth, auth_of}
use Rattle.session_codec.specs.SessionText.{payload_of}
use Rattle.ledger_rows.specs.declared.operation.Op.{Op}
use Rattle.ledger_rows.specs.declared.operation.Op.TheVariants.{Load}
use Rattle.ledger_rows.specs.declared.reply.Reply.{Reply}
use Rattle.ledger_rows.specs.declared.reply.Reply.TheVariants.{Loaded}
use Rattle.ledger_rows.specs.declared.reply.UserRead.{UserRead}
use Rattle.ledger_rows.specs.declared.verdict.Verdict.{Verdict}
use Rattle.ledger_rows.specs.declared.verdict.Verdict.TheVariants.{Admitted, BadHash}
use Rattle.auth_backends.proofs.SessionBoxLemmas.{rehash_keeps_login}
use Rattle.auth_backends.specs.SessionBox.{rehashed}
use Rattle.auth_backends.specs.declared.session_box.SessionBox.{SessionBox}
use Rattle.middleware_chain.specs.Begun.{begun_of}
use Rattle.middleware_chain.specs.declared.begun.Begun.{Begun}
use Rattle.middleware_chain.specs.declared.begun.Begun.TheVariants.{Answer, Go}
use Rattle.middleware_chain.specs.declared.route.Route.{Route}
use Rattle.middleware_chain.specs.declared.route.Route.TheVariants.{Login, Logout, PasswordChange, Session, Whoami}
use Rattle.account_views.specs.Basis.{Basis}
use Rattle.account_views.specs.Handler.{after_load, call_of, request_basis, script, script_of}
use Rattle.account_views.specs.Laws.{BoxRule, IsGiven, IsSound, WritesGiven}
use Rattle.account_views.specs.SessionWrite.{placing_op, written}
use Rattle.account_views.specs.View.{has_view, view, view_at}
use Rattle.account_views.specs.Visit.{map_in, met, opened, visit_of}
use Rattle.account_views.specs.Walk.{Event, IsReplyTo}
use Rattle.account_views.specs.declared.call.Call.{Call}
use Rattle.account_views.specs.declared.page.Viewed.{Viewed}
use Rattle.account_views.specs.declared.visit.Visit.{Visit}
use Rattle.account_views.proofs.EveryLemmas.{Every, Every-and_then, Every-both, behind, fine_at}
use Rattle.account_views.proofs.GivenChange.{IsNamedUser, change-given, visit_of-named}
use Rattle.account_views.proofs.GivenLemmas.{Given, Sound, empty-given, given_more}
use Rattle.account_views.proofs.GivenLogin.{login-given}
use Rattle.account_views.proofs.LoginLemmas.{map_in-payload_of, session_entries-login}
use Rattle.account_views.proofs.ProperLemmas.{Allowed, EndsProperly, MayCome}
use Rattle.account_views.proofs.ProperScripts.{HasTexts, IsProperCall, begun_of-texts, view-proper, visit_of-session}
use Rattle.account_views.proofs.WalkLemmas.{either}
use Rattle.account_views.proofs.WriteLemmas.{EverySent, IsFineWrite, every-written}

abbrev Sent : Response → Type 0
Sent response = Unit {0}

-- ---- the session's write

module _ (basis : Basis) (v : Viewed) (session : IsSession v.session.map) where
  -- the login of the payload is that of the map
  said : (past : List Event) → Given past v → IsGiven past (auth_of (map_in (payload_of v.session.map)))
  said past given = subst (λ map. IsGiven past (auth_of map)) (sym (map_in-payload_of v.session.map session)) given

  placing-given : (past : List Event) (old : Option (List ℕ)) (key : List ℕ) → Given past v → WritesGiven past (placing_op basis.facts v old key)
  placing-given past None key given = said past given
  placing-given past (Some old) key given = said past given

  given-write : IsFineWrite basis v (λ past. Given past v) WritesGiven Sent
  given-write = record {
    stays = λ past op reply given. given_more past op reply (auth_of v.session.map) given;
    deletes = λ past key. tt;
    places = λ past old number below given. placing-given past old _ given;
    saves = λ past key given. said past given;
    keeps = tt;
    stores = λ cookie. tt;
    goes = tt;
    fails = tt;
  }

written-given : (basis : Basis) (v : Viewed) (past : List Event) → IsSession v.session.map → Given past v → EverySent Sound WritesGiven Sent past (written basis v)
written-given basis v past session given = every-written basis v Sound (λ past. Given past v) WritesGiven Sent (given-write basis v session) past given

-- ---- the views

view-given : (route : Route) (basis : Basis) (call : Call) (visit : Visit) (past : List Event) → IsNamedUser visit.user visit.session → IsGiven past (auth_of visit.session.map)
    → Every Sound WritesGiven Given past (view_at route basis call visit)
view-given Whoami basis call visit past named given = given
view-given Login basis call visit past named given = login-given basis call visit.session past given
view-given Logout basis call visit past named given = empty-given past
view-given Session basis call visit past named given = subst (IsGiven past) (sym (session_entries-login basis.draw call visit.session)) given
view-given PasswordChange basis call visit past named given = change-given basis call visit past named given
view-given _ basis call visit past named given = given

-- ---- the load

loaded-given : (op : Op) (verdict : Verdict) (key : Option (List ℕ)) (payload : List ℕ) (user : Option UserRead) (login : Option SessionAuth) → auth_of (map_in payload) ≡ login
    → IsGiven (behind [] op (Loaded verdict key payload user)) login
loaded-given op verdict key payload user None is = tt
loaded-given op verdict key payload user (Some auth) is = inl (inl is)

-- a session that gets a new hash gets the one that was given out for its user
rehashed-given : (op : Op) (key_index : ℕ) (came : Bool) (key : Option (List ℕ)) (payload : List ℕ) (read : UserRead) → IsSound (Loaded (Admitted key_index) key payload (Some read))
    → IsGiven (behind [] op (Loaded (Admitted key_index) key payload (Some read))) (auth_of (rehashed read.auth_hash (opened came key (map_in payload))).map)
rehashed-given op key_index came key payload read sound =
    subst (IsGiven (behind [] op (Loaded (Admitted key_index) key payload (Some read))))
    (sym (rehash_keeps_login read.auth_hash (opened came key (map_in payload)) sound.auth sound.named)) (inl (inr (sound.same, refl)))

met-given : (op : Op) (came : Bool) (verdict : Verdict) (key : Option (List ℕ)) (payload : List ℕ) (user : Option UserRead) → IsSound (Loaded verdict key payload user)
    → IsGiven (behind [] op (Loaded verdict key payload user)) (auth_of (met verdict user (opened came key (map_in payload))).session.map)
met-given op came BadHash key payload user sound = empty-given (behind [] op (Loaded BadHash key payload user))
met-given op came (Admitted key_index) key payload (Some read) sound =
    either (λ (box : SessionBox). IsGiven (behind [] op (Loaded (Admitted key_index) key payload (Some read))) (auth_of box.map)) (nat_lt 0 key_index)
    (rehashed read.auth_hash (opened came key (map_in payload))) (opened came key (map_in payload))
    (rehashed-given op key_index came key payload read sound) (loaded-given op (Admitted key_index) key payload (Some read) _ refl)
met-given op came verdict key payload user sound = loaded-given op verdict key payload user _ refl

visit_of-given : (op : Op) (came : Bool) (reply : Reply) → IsSound reply → IsGiven (behind [] op reply) (auth_of (visit_of came reply).session.map)
visit_of-given op came (Loaded verdict key payload user) sound = met-given op came verdict key payload user sound
visit_of-given op came reply sound = empty-given (behind [] op reply)

-- ---- the whole

after_load-given : (basis : Basis) (cookie : Option (List ℕ)) (now : ℕ) (call : Call) (reply : Reply) → IsProperCall call → IsReplyTo (Load cookie now) reply → IsSound reply
    → EverySent Sound WritesGiven Sent (behind [] (Load cookie now) reply) (after_load basis (is_some cookie) call reply)
after_load-given basis cookie now call reply texts may sound =
    let past = behind [] (Load cookie now) reply in
    let visit = visit_of (is_some cookie) reply in
    let script = view basis call visit in
    let proper : Every MayCome (Allowed basis) EndsProperly past script =
    view-proper call.route basis call visit past texts (visit_of-session cookie now (is_some cookie) reply may) in
    let given : Every Sound WritesGiven Given past script =
    view-given call.route basis call visit past (visit_of-named (is_some cookie) reply sound) (visit_of-given (Load cookie now) (is_some cookie) reply sound) in
    Every-and_then Sound WritesGiven (λ later v. EndsProperly later v × Given later v) (λ later response. Sent response) past script (written basis)
    (Every-both MayCome Sound (Allowed basis) WritesGiven EndsProperly Given (λ event sound. sound.0) past script proper given)
    (λ later v ends. written-given basis v later ends.0.session ends.1)

every-given : (basis : Basis) (begun : Begun) → HasTexts begun → EverySent Sound WritesGiven Sent [] (script_of basis begun)
every-given basis (Answer response) texts = tt
every-given basis (Go context) texts =
    either (EverySent Sound WritesGiven Sent []) (has_view context.route) _ _
    (tt, λ reply sound. after_load-given basis context.session basis.facts.moment (call_of context) reply texts sound.0 sound.1) tt

pub box_rule : BoxRule
box_rule settings r moment draw events op rest leads sound =
    let basis : Basis = request_basis settings r moment draw in
    fine_at Sound WritesGiven (λ later response. Sent response) events [] (script settings r moment draw) op rest
    (every-given basis (begun_of settings r) (begun_of-texts settings r)) leads sound
