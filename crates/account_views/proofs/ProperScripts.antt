-- Whole scripts are proper: the load, the views and the session's write.
use Rattle.std.proofs.Common.{ℕ, zero, suc, ◌^◌, ◌<◌, Bool, unwrap_or, nat_lt, codes, List, [], All, Option, Some, is_some, sym, subst, ap, arith}
use Rattle.std.proofs.lemmas.List.Elements.{All-append, All-cons}
use Rattle.std.specs.Str.{IsUtf8}
use Rattle.serde_json.specs.Data.{no_members}
use Rattle.crypto_text.specs.Moment.{IsMoment}
use Rattle.outside.proofs.Positions.{length-words_from}
use Rattle.outside.specs.RandomWords.{RandomWords, after_words, next_word, words_from}
use Rattle.http_edge.specs.declared.request.Request.{Request}
use Rattle.http_edge.specs.declared.response.Response.{Response}
use Rattle.pass_hashers.specs.PasswordText.{IsUsable}
use Rattle.session_codec.specs.SessionMap.{IsSession}
use Rattle.ledger_rows.proofs.PayloadLemmas.{payload-reads}
use Rattle.ledger_rows.specs.Replies.{IsPayload}
use Rattle.ledger_rows.specs.declared.operation.Op.TheVariants.{Load}
use Rattle.ledger_rows.specs.declared.reply.Reply.{Reply}
use Rattle.ledger_rows.specs.declared.reply.Reply.TheVariants.{Loaded}
use Rattle.ledger_rows.specs.declared.reply.UserRead.{UserRead}
use Rattle.ledger_rows.specs.declared.verdict.Verdict.{Verdict}
use Rattle.ledger_rows.specs.declared.verdict.Verdict.TheVariants.{Admitted, BadHash}
use Rattle.auth_backends.specs.SessionBox.{rehashed}
use Rattle.auth_backends.specs.declared.session_box.SessionBox.{SessionBox}
use Rattle.middleware_chain.proofs.BegunLemmas.{begun_of-is, begun_of-status}
use Rattle.middleware_chain.specs.Begun.{HasStatus, begun_of}
use Rattle.middleware_chain.specs.Context.{context_of}
use Rattle.middleware_chain.specs.declared.begun.Begun.{Begun}
use Rattle.middleware_chain.specs.declared.begun.Begun.TheVariants.{Answer, Go}
use Rattle.middleware_chain.specs.declared.route.Route.{Route}
use Rattle.middleware_chain.specs.declared.route.Route.TheVariants.{Login, Logout, PasswordChange, Session, Whoami}
use Rattle.middleware_chain.specs.declared.settings.Settings.{Settings}
use Rattle.account_views.specs.Basis.{Basis, basis_of}
use Rattle.account_views.specs.Handler.{after_load, call_of, request_basis, script_of}
use Rattle.account_views.specs.Laws.{StepsAreProper}
use Rattle.account_views.specs.Script.{Steps, Return, Ask}
use Rattle.account_views.specs.SessionEntries.{entered, is_entry, session_entries}
use Rattle.account_views.specs.SessionWrite.{written}
use Rattle.account_views.specs.View.{has_view, view, view_at}
use Rattle.account_views.specs.Visit.{map_in, met, opened, visit_of}
use Rattle.account_views.specs.Walk.{AreWords, Event, IsAllowed, IsProper, IsReplyTo, IsTextRead}
use Rattle.account_views.specs.declared.call.Call.{Call}
use Rattle.account_views.specs.declared.facts.Facts.{Facts}
use Rattle.account_views.specs.declared.visit.Visit.{Visit}
use Rattle.account_views.proofs.EntryLemmas.{put_hash-session, with_entry-session}
use Rattle.account_views.proofs.EveryLemmas.{Every, Every-and_then, behind}
use Rattle.account_views.proofs.ProperChange.{change-proper}
use Rattle.account_views.proofs.ProperLemmas.{Allowed, EndsProperly, HasOwnStatus, IsProperBasis, IsProperEnd, MayCome, status_200, status_400, status_404, written-proper}
use Rattle.account_views.proofs.ProperLogin.{empty-session, login-proper, status_302}
use Rattle.account_views.proofs.TextLemmas.{AreTexts, body_fields-texts, fields_of-texts, last_value-text}
use Rattle.account_views.proofs.WalkLemmas.{either}
use Rattle.account_views.proofs.WriteLemmas.{EverySent}

-- ---- the load

map_in-session : (payload : List ℕ) → IsPayload payload → IsSession (map_in payload)
map_in-session payload is = subst IsSession (sym (ap (λ map. unwrap_or map no_members) (payload-reads payload is))) is.held

met-session : (verdict : Verdict) (user : Option UserRead) (session : SessionBox) → IsTextRead user → IsSession session.map → IsSession (met verdict user session).session.map
met-session BadHash user session text held = empty-session
met-session (Admitted key_index) (Some read) session text held =
    either (λ (box : SessionBox). IsSession box.map) (nat_lt 0 key_index) (rehashed read.auth_hash session) session (put_hash-session read.auth_hash session.map text held) held
met-session _ user session text held = held

pub visit_of-session : (cookie : Option (List ℕ)) (now : ℕ) (came : Bool) (reply : Reply) → IsReplyTo (Load cookie now) reply → IsSession (visit_of came reply).session.map
visit_of-session cookie now came (Loaded verdict key payload user) may =
    met-session verdict user (opened came key (map_in payload)) may.hash (map_in-session payload may.kind.payload)
visit_of-session cookie now came _ may = empty-session

load-allowed : (cookie : Option (List ℕ)) (moment : ℕ) → IsMoment moment → IsAllowed (Load cookie moment)
load-allowed cookie moment is = record { operation = is; no_start = λ e. cc }

-- ---- the views

-- the values of a call's fields are text
pub record IsProperCall (call : Call) : Type 0 where
  pub fields : AreTexts call.fields
  pub query : AreTexts call.query

entered-proper : (name value expiry : List ℕ) (session : SessionBox) → IsUtf8 name → IsUtf8 value → IsSession session.map → IsProperEnd (entered name value expiry session)
entered-proper name value expiry session is_name is_value held =
    either IsProperEnd (is_entry name value expiry session.map) _ _
    (record { session = with_entry-session name value expiry session is_name is_value held; status = status_200 }) (record { session = held; status = status_400 })

session_entries-proper : (draw : List ℕ) (call : Call) (session : SessionBox) → IsProperCall call → IsSession session.map → IsProperEnd (session_entries draw call session)
session_entries-proper draw call session texts held =
    let of = λ (name : List ℕ). last_value-text name call.fields texts.fields in
    either IsProperEnd call.post _ _ (entered-proper _ _ _ session (of (codes "name")) (of (codes "value")) held) (record { session = held; status = status_200 })

pub view-proper : (route : Route) (basis : Basis) (call : Call) (visit : Visit) (past : List Event) → IsProperCall call → IsSession visit.session.map
    → Every MayCome (Allowed basis) EndsProperly past (view_at route basis call visit)
view-proper Whoami basis call visit past texts held = record { session = held; status = status_200 }
view-proper Login basis call visit past texts held = login-proper basis call visit.session past held
view-proper Logout basis call visit past texts held = record { session = empty-session; status = status_302 }
view-proper Session basis call visit past texts held = session_entries-proper basis.draw call visit.session texts held
view-proper PasswordChange basis call visit past texts held = change-proper basis call visit past held
view-proper _ basis call visit past texts held = record { session = held; status = status_404 }

-- ---- the whole

after_load-proper : (basis : Basis) (cookie : Option (List ℕ)) (now : ℕ) (call : Call) (reply : Reply) (past : List Event) → IsProperCall call
    → IsReplyTo (Load cookie now) reply → EverySent MayCome (Allowed basis) HasOwnStatus past (after_load basis (is_some cookie) call reply)
after_load-proper basis cookie now call reply past texts may =
    let visit = visit_of (is_some cookie) reply in
    Every-and_then MayCome (Allowed basis) EndsProperly (λ later response. HasOwnStatus response) past (view basis call visit) (written basis)
    (view-proper call.route basis call visit past texts (visit_of-session cookie now (is_some cookie) reply may))
    (λ later v ends. written-proper basis v later ends)

-- the values of the fields of what goes on are text
abbrev pub HasTexts : Begun → Type 0
HasTexts (Answer page) = Unit {0}
HasTexts (Go context) = IsProperCall (call_of context)

every-script : (basis : Basis) (begun : Begun) → HasStatus begun → HasTexts begun → EverySent MayCome (Allowed basis) HasOwnStatus [] (script_of basis begun)
every-script basis (Answer response) status texts = status
every-script basis (Go context) status texts =
    let op = Load context.session basis.facts.moment in
    either (EverySent MayCome (Allowed basis) HasOwnStatus []) (has_view context.route) _ _ (
      λ going. load-allowed context.session basis.facts.moment going.moment,
      λ reply may. after_load-proper basis context.session basis.facts.moment (call_of context) reply (behind [] op reply) texts may,
    )
    status_404

IsProper-of_every : (basis : Basis) (past : List Event) (script : Steps Response) → IsProperBasis basis → EverySent MayCome (Allowed basis) HasOwnStatus past script → IsProper script
IsProper-of_every basis past (Return response) going every = every
IsProper-of_every basis past (Ask op rest) going every = (every.0 going, λ reply may. IsProper-of_every basis (behind past op reply) (rest reply) going (every.1 reply may))

pub script_of-proper : (basis : Basis) (begun : Begun) → IsProperBasis basis → HasStatus begun → HasTexts begun → IsProper (script_of basis begun)
script_of-proper basis begun going status texts = IsProper-of_every basis [] (script_of basis begun) going (every-script basis begun status texts)

context_of-texts : (r : Request) (route : Route) → HasTexts (Go (context_of route r))
unfolding context_of
context_of-texts r route = record { fields = body_fields-texts r; query = fields_of-texts r.query }

pub begun_of-texts : (settings : Settings) (r : Request) → HasTexts (begun_of settings r)
begun_of-texts settings r = begun_of-is HasTexts settings r (λ refusal. tt) (λ route. context_of-texts r route)

pub steps_are_proper : StepsAreProper
steps_are_proper settings r moment draw is words enough usable =
    script_of-proper (request_basis settings r moment draw) (begun_of settings r) (record { moment = is; words = words; enough = enough; usable = usable })
    (begun_of-status settings r) (begun_of-texts settings r)

-- ---- the words of a generator

words_from-fit : (words : RandomWords) (count : ℕ) → AreWords words → All (λ word. word < 2 ^ 32) (words_from words count)
unfolding words_from
words_from-fit words zero are = λ k d lt. absurd (omega arith)
words_from-fit words (suc count) are =
    All-append (λ word. word < 2 ^ 32) _ _ (words_from-fit words count are)
    (All-cons (λ word. word < 2 ^ 32) (next_word (after_words words count)) [] (are _) (λ k d lt. absurd (omega arith)))

pub basis_of-proper : (settings : Settings) (facts : Facts) (words : RandomWords) → IsMoment facts.moment → IsUsable settings.cfg.preferred → AreWords words → IsProperBasis (basis_of settings facts words)
basis_of-proper settings facts words is usable are =
    record { moment = is; words = words_from-fit words 1024 are; enough = let count = length-words_from words 1024 in omega arith; usable = usable }
