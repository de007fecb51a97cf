-- A request that is under way goes on by a step, and is driven once it has ended.
use Rattle.std.proofs.Common.{◌≡◌, ℕ, zero, suc, ◌+◌, ◌-◌, ◌≤◌, List, [], ◌∷◌, ◌++◌, length, Option, Some, None, refl, sym, ap, ◌∙◌, subst, arith, add-zero, length-append, inl, inr, Err}
use Rattle.std.specs.Prelude.{IfSome}
use Rattle.ledger_rows.specs.declared.entry.Tag.{Tag}
use Rattle.ledger_rows.specs.declared.operation.Op.{Op}
use Rattle.ledger_rows.specs.declared.reply.Reply.{Reply}
use Rattle.http_edge.specs.ResponseText.{IsStatus}
use Rattle.http_edge.specs.declared.request.Request.{Request}
use Rattle.http_edge.specs.declared.response.Response.{Response}
use Rattle.account_views.specs.Script.{Steps, Return, Ask}
use Rattle.account_views.specs.Walk.{AtMost, Event, IsProper, Leads}
use Rattle.session_engines.specs.declared.step_fault.StepFault.{StepFault}
use Rattle.session_engines.specs.declared.step_fault.StepFault.TheVariants.{Keeper, Full, Memory}
use Rattle.site_server.specs.Outcome.{Done, IsAsking, IsLastTurn, MayEnd, OutOfMemory, Server, answer_of, tag_of, turns_from}
use Rattle.site_server.specs.Step.{IsAdvance, IsDriven, ending_of}
use Rattle.site_server.specs.Turns.{Did, Failed, HadNoRoom, Turn, turns_of_step}
use Rattle.site_server.specs.declared.driving.Advance.{Advance}
use Rattle.site_server.specs.declared.driving.Advance.TheVariants.{Answered, Refused, Replied}

-- ---- walks

Leads-last : (events : List Event) (script now : Steps Response) (op : Op) (rest : Reply → Steps Response) (reply : Reply) → Leads script events now → now ≡ Ask op rest
    → Leads script (events ++ record { op = op; reply = reply } ∷ []) (rest reply)
Leads-last [] script now op rest reply leads e =
    subst (λ s. Leads s (record { op = op; reply = reply } ∷ []) (rest reply)) (sym (sym leads ∙ e)) (refl, refl)
Leads-last (event ∷ events) (Return response) now op rest reply leads e = absurd leads
Leads-last (event ∷ events) (Ask asked go) now op rest reply leads e = (leads.0, Leads-last events (go event.reply) now op rest reply leads.1 e)

turns_from-last : (server : Server) (number step : ℕ) (events : List Event) (event : Event)
    → turns_from server number step (events ++ event ∷ [])
    ≡ turns_from server number step events ++ Did (tag_of server number (step + length events)) event.op event.reply ∷ []
turns_from-last server number step [] event = rw add-zero refl
turns_from-last server number step (first ∷ events) event =
    let place : step + 1 + length events ≡ step + suc (length events) = omega arith in
    let later : turns_from server number (step + 1) (events ++ event ∷ [])
    ≡ turns_from server number (step + 1) events ++ Did (tag_of server number (step + suc (length events))) event.op event.reply ∷ [] =
    turns_from-last server number (step + 1) events event
    ∙ ap (λ k. turns_from server number (step + 1) events ++ Did (tag_of server number k) event.op event.reply ∷ []) place in
    ap (λ turns. Did (tag_of server number step) first.op first.reply ∷ turns) later

AtMost-below : {A : Type 0} (m n : ℕ) → m ≤ n → (s : Steps A) → AtMost m s → AtMost n s
AtMost-below m n le (Return a) h = tt
AtMost-below zero n le (Ask op rest) h = absurd h
AtMost-below (suc m) zero le (Ask op rest) h = absurd (omega arith)
AtMost-below (suc m) (suc n) le (Ask op rest) h = λ reply. AtMost-below m n (omega arith) (rest reply) (h reply)

one_fewer : (m n : ℕ) → m ≤ n + 1 → (op : Op) (rest : Reply → Steps Response) (reply : Reply) → AtMost m (Ask op rest) → AtMost n (rest reply)
one_fewer zero n le op rest reply h = absurd h
one_fewer (suc m) n le op rest reply h = AtMost-below m n (omega arith) (rest reply) (h reply)

one_at_least : (m : ℕ) (op : Op) (rest : Reply → Steps Response) → AtMost m (Ask op rest) → 1 ≤ m
one_at_least zero op rest h = absurd h
one_at_least (suc m) op rest h = omega arith

-- ---- a request under way

-- the steps so far are those of the script, and this is left of it; the worker may enter more
pub record IsUnderway {S : Type 0} (passed : List Turn → S → S → Type 0) (may_enter : S → Tag → Type 0) (server : Server) (script now : Steps Response) (number step : ℕ) (first mid : S) : Type 0 where
  pub events : List Event
  pub numbered : step ≡ length events
  pub leads : Leads script events now
  pub so_far : passed (turns_from server number 0 events) first mid
  pub own : (k : ℕ) → may_enter mid (tag_of server number k)
  pub few : AtMost (21 - step) now
  pub proper : IsProper now
  pub within : step ≤ 21

pub begins : {S : Type 0} (passed : List Turn → S → S → Type 0) (may_enter : S → Tag → Type 0) (server : Server) (script : Steps Response) (number : ℕ) (first : S)
    → passed [] first first → ((k : ℕ) → may_enter first (tag_of server number k)) → AtMost 21 script → IsProper script → IsUnderway passed may_enter server script script number 0 first first
begins passed may_enter server script number first none own few proper =
    record { events = []; numbered = refl; leads = refl; so_far = none; own = own; few = few; proper = proper; within = omega arith }

pub goes_on : {S : Type 0} (passed : List Turn → S → S → Type 0) (may_enter : S → Tag → Type 0)
    → ((one other : List Turn) (a b c : S) → passed one a b → passed other b c → passed (one ++ other) a c)
    → ((turns : List Turn) (a b : S) (tag : Tag) → passed turns a b → may_enter a tag → may_enter b tag)
    → (server : Server) (script now : Steps Response) (after : Reply → Steps Response) (number step : ℕ) (first mid new : S) (reply : Reply)
    → IsUnderway passed may_enter server script now number step first mid
    → IsAdvance now after (tag_of server number step) (λ turns. passed turns mid new) (Replied reply)
    → IsUnderway passed may_enter server script (after reply) number (step + 1) first new
goes_on passed may_enter adds keeps server script now after number step first mid new reply u (op, rest, asks, goes, kind, did) =
    let few_asked : AtMost (21 - step) (Ask op rest) = subst (λ s. AtMost (21 - step) s) asks u.few in
    let some : 1 ≤ 21 - step = one_at_least (21 - step) op rest few_asked in
    let event : Event = record { op = op; reply = reply } in
    let place : step ≡ 0 + length u.events = omega (arith, u.numbered) in
    let all : turns_from server number 0 u.events ++ Did (tag_of server number step) op reply ∷ [] ≡ turns_from server number 0 (u.events ++ event ∷ []) =
    ap (λ k. turns_from server number 0 u.events ++ Did (tag_of server number k) op reply ∷ []) place ∙ sym (turns_from-last server number 0 u.events event) in
    record {
      events = u.events ++ event ∷ [];
      numbered = omega (arith, length-append u.events (event ∷ []), u.numbered);
      leads = subst (λ s. Leads script (u.events ++ event ∷ []) s) (sym goes) (Leads-last u.events script now op rest reply u.leads asks);
      so_far = subst (λ turns. passed turns first new) all
          (adds (turns_from server number 0 u.events) (Did (tag_of server number step) op reply ∷ []) first mid new u.so_far did);
      own = λ k. keeps (Did (tag_of server number step) op reply ∷ []) mid new (tag_of server number k) did (u.own k);
      few = subst (λ s. AtMost (21 - (step + 1)) s) (sym goes) (one_fewer (21 - step) (21 - (step + 1)) (omega arith) op rest reply few_asked);
      proper = subst (λ s. IsProper s) (sym goes) ((subst (λ s. IsProper s) asks u.proper).1 reply kind);
      within = omega arith;
    }

-- ---- its end

pub driven_answer : {S : Type 0} (passed : List Turn → S → S → Type 0) (may_enter : S → Tag → Type 0)
    → ((one other : List Turn) (a b c : S) → passed one a b → passed other b c → passed (one ++ other) a c)
    → (server : Server) (script now : Steps Response) (after : Reply → Steps Response) (number step : ℕ) (r : Request) (first mid new : S) (response : Response)
    → IsUnderway passed may_enter server script now number step first mid
    → IsAdvance now after (tag_of server number step) (λ turns. passed turns mid new) (Answered response)
    → IsDriven script server number r (λ turns. passed turns first new) (Some response)
driven_answer passed may_enter adds server script now after number step r first mid new response u (ends, none) = record {
  outcome = record { events = u.events; ending = Done response };
  is = record { left = now; leads = u.leads; ends = ends };
  turns = turns_from server number 0 u.events ++ [];
  turns_are = record { last = []; is_last = refl; all = refl };
  passed = adds (turns_from server number 0 u.events) [] first mid new u.so_far none;
  answered = refl;
}

-- memory may be out after a refusal
out_after : (fault : StepFault) (last : List Turn) → IsLastTurn (ending_of fault) last → IsLastTurn OutOfMemory last
out_after (Keeper before after) last is = inr (inl is)
out_after Full last is = inr (inr is)
out_after Memory last is = is

pub driven_refusal : {S : Type 0} (passed : List Turn → S → S → Type 0) (may_enter : S → Tag → Type 0)
    → ((one other : List Turn) (a b c : S) → passed one a b → passed other b c → passed (one ++ other) a c)
    → (server : Server) (script now : Steps Response) (after : Reply → Steps Response) (number step : ℕ) (r : Request) (first mid new : S) (fault : StepFault) (result : Option Response)
    → IsUnderway passed may_enter server script now number step first mid
    → IsAdvance now after (tag_of server number step) (λ turns. passed turns mid new) (Refused fault)
    → IfSome result (λ response. answer_of r (ending_of fault) ≡ Some response)
    → IsDriven script server number r (λ turns. passed turns first new) result
driven_refusal passed may_enter adds server script now after number step r first mid new fault (Some response) u (ends, (last, is_last, some)) is = record {
  outcome = record { events = u.events; ending = ending_of fault };
  is = record { left = now; leads = u.leads; ends = ends };
  turns = turns_from server number 0 u.events ++ last;
  turns_are = record { last = last; is_last = is_last; all = refl };
  passed = adds (turns_from server number 0 u.events) last first mid new u.so_far some;
  answered = sym is;
}
driven_refusal passed may_enter adds server script now after number step r first mid new fault None u (ends, (last, is_last, some)) is = record {
  outcome = record { events = u.events; ending = OutOfMemory };
  is = record { left = now; leads = u.leads; ends = tt };
  turns = turns_from server number 0 u.events ++ last;
  turns_are = record { last = last; is_last = out_after fault last is_last; all = refl };
  passed = adds (turns_from server number 0 u.events) last first mid new u.so_far some;
  answered = refl;
}

pub advance_along : (now : Steps Response) (after : Reply → Steps Response) (tag : Tag) (Passed : List Turn → Type 0) (one other : Advance) → one ≡ other
    → IsAdvance now after tag Passed one → IsAdvance now after tag Passed other
advance_along now after tag Passed one other e h = subst (λ a. IsAdvance now after tag Passed a) e h

-- ---- from a machine to its script

pub driven_along : (script other : Steps Response) (server : Server) (number : ℕ) (r : Request) (Passed : List Turn → Type 0) (answer : Option Response) → script ≡ other
    → IsDriven script server number r Passed answer → IsDriven other server number r Passed answer
driven_along script other server number r Passed answer e h = subst (λ s. IsDriven s server number r Passed answer) e h

-- memory was out before the first call
pub driven_nowhere : {S : Type 0} (passed : List Turn → S → S → Type 0) (script : Steps Response) (server : Server) (number : ℕ) (r : Request) (first : S)
    → passed [] first first → IsDriven script server number r (λ turns. passed turns first first) None
driven_nowhere passed script server number r first none = record {
  outcome = record { events = []; ending = OutOfMemory };
  is = record { left = script; leads = refl; ends = tt };
  turns = [];
  turns_are = record { last = []; is_last = inl refl; all = refl };
  passed = none;
  answered = refl;
}

-- the response of a proper script has a status of its own
pub status_of_answer : (now : Steps Response) (after : Reply → Steps Response) (tag : Tag) (Passed : List Turn → Type 0) (response : Response)
    → IsProper now → IsAdvance now after tag Passed (Answered response) → IsStatus response.status
status_of_answer now after tag Passed response proper (ends, none) = subst (λ s. IsProper s) ends proper

-- ---- a step that was refused

pub refused_step : (now : Steps Response) (op : Op) (rest : Reply → Steps Response) (tag : Tag) (fault : StepFault) (Passed : List Turn → Type 0) → Ask op rest ≡ now
    → Passed (turns_of_step tag op (Err fault)) → MayEnd now (ending_of fault) × ((turns : List Turn) × IsLastTurn (ending_of fault) turns × Passed turns)
refused_step now op rest tag (Keeper before after) Passed asks passed = (subst IsAsking asks tt, (Failed ∷ [], refl, passed))
refused_step now op rest tag Full Passed asks passed = (subst IsAsking asks tt, (HadNoRoom op ∷ [], (op, refl), passed))
refused_step now op rest tag Memory Passed asks passed = (tt, ([], inl refl, passed))
