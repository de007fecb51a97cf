-- The page of `/whoami/` names the user whom the load at its entry's index admits.
use Rattle.std.proofs.Common.{◌≡◌, ℕ, zero, suc, ◌+◌, Bool, true, false, if◌then◌else◌, ◌&&◌, not, is_some, Result, Ok, Err, List, [], ◌∷◌, ◌++◌, length, Option, Some, None, refl, sym, ap, ◌∙◌, subst, arith, append_assoc, add-zero, option_map, inl, inr, nat_lt}
use Rattle.std.specs.Prelude.{codes}
use Rattle.std.proofs.lemmas.List.{append_cancel_left, append_cancel_right}
use Rattle.ledger_rows.specs.Admission.{IsAdmitted, found_user, verdict_of}
use Rattle.ledger_rows.specs.History.{entry_at, reply_at, state_at}
use Rattle.ledger_rows.specs.Laws.{LoadAdmitsExactly}
use Rattle.ledger_rows.specs.State.{State}
use Rattle.ledger_rows.specs.Step.{admitted_user, loaded, reply_to}
use Rattle.ledger_rows.specs.declared.entry.Entry.{Entry}
use Rattle.ledger_rows.specs.declared.entry.Tag.{Tag}
use Rattle.ledger_rows.specs.declared.operation.Op.{Op}
use Rattle.ledger_rows.specs.declared.operation.Op.TheVariants.{Load}
use Rattle.ledger_rows.specs.declared.reply.Reply.{Reply}
use Rattle.ledger_rows.specs.declared.rows.Cfg.{Cfg}
use Rattle.ledger_rows.specs.declared.rows.Opening.{Opening}
use Rattle.ledger_rows.specs.declared.rows.UserRow.{UserRow}
use Rattle.ledger_rows.specs.declared.verdict.Verdict.{Verdict}
use Rattle.ledger_rows.specs.declared.verdict.Verdict.TheVariants.{NoCookie, NotStored, Corrupt, NoAuth, BadBackend, NoUser, Inactive, BadHash, Admitted}
use Rattle.http_edge.specs.declared.response.Response.{Response}
use Rattle.keepers.specs.Keeper.{OnHolding}
use Rattle.middleware_chain.specs.Page.{line}
use Rattle.middleware_chain.specs.Route.{route_of}
use Rattle.middleware_chain.specs.declared.route.Route.TheVariants.{Whoami}
use Rattle.http_edge.specs.declared.request.Request.{Request}
use Rattle.ledger_rows.specs.declared.reply.Reply.TheVariants.{Loaded}
use Rattle.ledger_rows.specs.declared.reply.UserRead.{UserRead}
use Rattle.middleware_chain.specs.declared.settings.Settings.{Settings}
use Rattle.account_views.proofs.ShownLemmas.{body_of}
use Rattle.account_views.specs.Handler.{request_basis}
use Rattle.account_views.specs.Script.{Steps, Return, Ask}
use Rattle.account_views.specs.Visit.{visit_of}
use Rattle.account_views.specs.Walk.{Event, Leads}
use Rattle.account_views.specs.Whoami.{user_line}
use Rattle.site_server.specs.Laws.{PageNamesTheAdmitted, exchange_at}
use Rattle.site_server.specs.OneWorker.{AreTurnsOfAll}
use Rattle.site_server.specs.Outcome.{Done, IsOutcome, MayEnd, Server, tag_of, turns_from}
use Rattle.site_server.specs.OwnLedger.{list_of}
use Rattle.site_server.specs.Transcript.{Exchange, IsSaid, IsTranscript, IsWhole, end_after, response_of, script_of as script_in_exchange, text_of}
use Rattle.site_server.specs.Turns.{Did, Failed, HadNoRoom, StandFrom, Turn}
use Rattle.site_server.specs.declared.connection.End.{End}

-- ---- the turn of a request's first step

turn_at : (server : Server) (number : ℕ) (exchanges : List Exchange) (turns : List Turn) (index : ℕ) (e : Exchange) (op : Op) (reply : Reply) (events : List Event)
    → AreTurnsOfAll server number exchanges turns → exchange_at exchanges index ≡ Some e → e.outcome.events ≡ record { op = op; reply = reply } ∷ events
    → (front : List Turn) × (back : List Turn) × (turns ≡ front ++ (Did (tag_of server (number + index) 0) op reply ∷ back))
turn_at server number [] turns index e op reply events none is asked = let no : None ≡ Some e = is in absurd (cc)
turn_at server number (other ∷ exchanges) turns zero e op reply events (here, later, all, of, rest) is asked =
    let same : other ≡ e = cc in
    let asks : other.outcome.events ≡ record { op = op; reply = reply } ∷ events = ap (λ (x : Exchange). x.outcome.events) same ∙ asked in
    let back : List Turn = turns_from server number 1 events ++ of.last in
    let mine : here ≡ Did (tag_of server number 0) op reply ∷ back = of.all ∙ ap (λ es. turns_from server number 0 es ++ of.last) asks in (
      [],
      back ++ later,
      all ∙ ap (λ ts. ts ++ later) mine ∙ ap (λ n. Did (tag_of server n 0) op reply ∷ (back ++ later)) (sym (add-zero number)),
    )
turn_at server number (other ∷ exchanges) turns (suc index) e op reply events (here, later, all, of, rest) is asked =
    let found = turn_at server (number + 1) exchanges later index e op reply events rest is asked in
    let count : number + 1 + index ≡ number + suc index = omega arith in (
      here ++ found.0,
      found.1,
      all ∙ ap (λ ts. here ++ ts) found.2 ∙ sym (append_assoc here found.0 (Did (tag_of server (number + 1 + index) 0) op reply ∷ found.1))
          ∙ ap (λ n. (here ++ found.0) ++ (Did (tag_of server n 0) op reply ∷ found.1)) count,
    )

-- it has its entry, and its reply
stands_at : (cfg : Cfg) (opening : Opening) (entries : List Entry) (from : ℕ) (front back : List Turn) (tag : Tag) (op : Op) (reply : Reply)
    → StandFrom cfg opening entries from (front ++ (Did tag op reply ∷ back))
    → (index : ℕ) × (entry_at entries index ≡ Some (record { tag = tag; op = op })) × (reply_at cfg opening entries index ≡ Some reply)
stands_at cfg opening entries from [] back tag op reply (index, after, entered, replied, rest) = (index, entered, replied)
stands_at cfg opening entries from (Did t o r ∷ front) back tag op reply (index, after, entered, replied, rest) = stands_at cfg opening entries (suc index) front back tag op reply rest
stands_at cfg opening entries from (Failed ∷ front) back tag op reply stand = stands_at cfg opening entries from front back tag op reply stand
stands_at cfg opening entries from (HadNoRoom o ∷ front) back tag op reply stand = stands_at cfg opening entries from front back tag op reply stand

reply_is : (cfg : Cfg) (opening : Opening) (entries : List Entry) (index : ℕ) (tag : Tag) (op : Op) (reply : Reply)
    → entry_at entries index ≡ Some (record { tag = tag; op = op }) → reply_at cfg opening entries index ≡ Some reply
    → reply ≡ reply_to cfg op (state_at cfg.engine opening entries index)
reply_is cfg opening entries index tag op reply entered replied =
    let same : Some (reply_to cfg op (state_at cfg.engine opening entries index)) ≡ Some reply =
    sym (ap (λ (o : Option Entry). option_map (λ (entry : Entry). reply_to cfg entry.op (state_at cfg.engine opening entries index)) o) entered) ∙ replied in cc

-- ---- the name

first_of : List ℕ → ℕ
first_of [] = 0
first_of (byte ∷ bytes) = byte

not_anonymous : (name : List ℕ) → codes "anonymous\n" ≡ codes "user=" ++ line name → ⊥
unfolding first_of
not_anonymous name is = let no : 97 ≡ 117 = ap first_of is in absurd (omega (arith, no))

same_name : (one other : List ℕ) → codes "user=" ++ line one ≡ codes "user=" ++ line other → one ≡ other
same_name one other is =
    let lines : one ++ codes "\n" ≡ other ++ codes "\n" = append_cancel_left (codes "user=") (line one) (line other) is in append_cancel_right one other (codes "\n") lines

-- by the verdict and by the user who was found
names : (cfg : Cfg) (state : State) (cookie : Option (List ℕ)) (now : ℕ) (name : List ℕ) (verdict : Verdict) (found : Option UserRow)
    → LoadAdmitsExactly → verdict_of cfg state cookie now ≡ verdict → found_user cfg.engine state cookie now ≡ found
    → user_line (admitted_user verdict state.tables.keys found) ≡ codes "user=" ++ line name
    → (user : UserRow) × (key : ℕ) × IsAdmitted cfg state cookie now user key × (user.name ≡ name)
names cfg state cookie now name NoCookie found exactly v f is = absurd (not_anonymous name is)
names cfg state cookie now name NotStored found exactly v f is = absurd (not_anonymous name is)
names cfg state cookie now name Corrupt found exactly v f is = absurd (not_anonymous name is)
names cfg state cookie now name NoAuth found exactly v f is = absurd (not_anonymous name is)
names cfg state cookie now name BadBackend found exactly v f is = absurd (not_anonymous name is)
names cfg state cookie now name NoUser found exactly v f is = absurd (not_anonymous name is)
names cfg state cookie now name Inactive found exactly v f is = absurd (not_anonymous name is)
names cfg state cookie now name BadHash found exactly v f is = absurd (not_anonymous name is)
names cfg state cookie now name (Admitted key) None exactly v f is = absurd (not_anonymous name is)
names cfg state cookie now name (Admitted key) (Some user) exactly v f is =
    (user, key, (exactly cfg state cookie now user key).0 (v, f), same_name user.name name is)

-- a visitor has a name where the load admits
visitor : (came : Bool) (verdict : Verdict) (keys : List (List ℕ)) (found : Option UserRow) (key : Option (List ℕ)) (payload : List ℕ)
    → (visit_of came (Loaded verdict key payload (admitted_user verdict keys found))).user ≡ admitted_user verdict keys found
visitor came NoCookie keys found key payload = refl
visitor came NotStored keys found key payload = refl
visitor came Corrupt keys found key payload = refl
visitor came NoAuth keys found key payload = refl
visitor came BadBackend keys found key payload = refl
visitor came NoUser keys found key payload = refl
visitor came Inactive keys found key payload = refl
visitor came BadHash keys found key payload = refl
visitor came (Admitted index) keys None key payload = refl
visitor came (Admitted index) keys (Some row) key payload = refl

-- the user whom a load admits, by its verdict
admitted_in : Cfg → State → Option (List ℕ) → ℕ → Option UserRead
admitted_in cfg state cookie now = admitted_user (verdict_of cfg state cookie now) state.tables.keys (found_user cfg.engine state cookie now)

named : (cfg : Cfg) (state : State) (cookie : Option (List ℕ)) (now : ℕ) (user : UserRow) (key : ℕ) → LoadAdmitsExactly → IsAdmitted cfg state cookie now user key
    → user_line (admitted_in cfg state cookie now) ≡ codes "user=" ++ line user.name
unfolding admitted_in
named cfg state cookie now user key exactly admitted =
    let is = (exactly cfg state cookie now user key).1 admitted in
    ap (λ (v : Verdict). user_line (admitted_user v state.tables.keys (found_user cfg.engine state cookie now))) is.0
    ∙ ap (λ (f : Option UserRow). user_line (admitted_user (Admitted key) state.tables.keys f)) is.1

-- the exchange is one of those that follow what was said
after_said : (answer : Option Response) (others : List Exchange) (written : List ℕ) (end : End) (index : ℕ) (e : Exchange) (GoesOn : List ℕ → Type 0) (Goal : Type 0)
    → ((later : List ℕ) → GoesOn later → Goal) → IsSaid answer others written end GoesOn → exchange_at others index ≡ Some e → Goal
after_said answer others written end index e GoesOn Goal goes (inr cut) at = let no : None ≡ Some e = ap (λ es. exchange_at es index) (sym cut.no_others) ∙ at in absurd (cc)
after_said answer others written end index e GoesOn Goal goes (inl whole) at = on (end_after answer) whole
  where
    on : (ending : Option End) → IsWhole (text_of answer) ending others written end GoesOn → Goal
    on (Some last) (none, is, ended) = let no : None ≡ Some e = ap (λ es. exchange_at es index) (sym none) ∙ at in absurd (cc)
    on None (later, is, tr) = goes later tr

-- the body of an exchange's response, by its walk
page_body : (settings : Settings) (exchanges : List Exchange) (most : ℕ) (bytes written : List ℕ) (end : End) (index : ℕ) (e : Exchange) (response : Response) (cookie : Option (List ℕ)) (now : ℕ) (reply : Reply)
    (events : List Event) → IsTranscript settings most bytes exchanges written end → exchange_at exchanges index ≡ Some e → route_of e.request.path ≡ Some Whoami
    → e.outcome.ending ≡ Done response → response.status ≡ 200 → e.outcome.events ≡ record { op = Load cookie now; reply = reply } ∷ events
    → (came : Bool) × (response.body ≡ user_line (visit_of came reply).user)
page_body settings [] most bytes written end index e response cookie now reply events tr at route done ok asked = let no : None ≡ Some e = at in absurd (cc)
page_body settings (other ∷ others) zero bytes written end index e response cookie now reply events (none, is, ended) at route done ok asked = absurd (cc)
page_body settings (other ∷ others) (suc left) bytes written end zero e response cookie now reply events (rest, framing, outcome, said) at route done ok asked =
    let same : other ≡ e = cc in
    let mine : IsOutcome (script_in_exchange settings e) e.outcome = subst (λ x. IsOutcome (script_in_exchange settings x) x.outcome) same outcome in
    let leads : Leads (script_in_exchange settings e) (record { op = Load cookie now; reply = reply } ∷ events) mine.left = subst (λ es. Leads (script_in_exchange settings e) es mine.left) asked mine.leads in
    let ends : mine.left ≡ Return response = subst (λ x. MayEnd mine.left x) done mine.ends in
    body_of settings e.request (request_basis settings e.request e.moment e.words) route cookie now reply events response
    (subst (λ l. Leads (script_in_exchange settings e) (record { op = Load cookie now; reply = reply } ∷ events) l) ends leads) ok
page_body settings (other ∷ others) (suc left) bytes written end (suc index) e response cookie now reply events (rest, framing, outcome, said) at route done ok asked =
    after_said (response_of (nat_lt 0 left) other) others written end index e (λ later. IsTranscript settings left rest others later end) ((came : Bool) × (response.body ≡ user_line (visit_of came reply).user))
    (λ later tr. page_body settings others left rest later end index e response cookie now reply events tr at route done ok asked) said at

-- ---- the whole

pub page_names : LoadAdmitsExactly → PageNamesTheAdmitted
unfolding admitted_in
page_names exactly settings server first before after found left report contents serves sound holds index e response cookie now reply events at route done ok asked =
    let turn = turn_at server first serves.exchanges serves.turns index e (Load cookie now) reply events serves.turns_are at asked in
    let replies : StandFrom found.cfg contents.opening contents.entries (length (list_of found.kept.report)) serves.turns =
    subst (λ r. OnHolding r (λ c. StandFrom found.cfg c.opening c.entries (length (list_of found.kept.report)) serves.turns)) holds (serves.passed.replies sound) in
    let stand = stands_at found.cfg contents.opening contents.entries (length (list_of found.kept.report)) turn.0 turn.1 (tag_of server (first + index) 0) (Load cookie now) reply
    (subst (λ ts. StandFrom found.cfg contents.opening contents.entries (length (list_of found.kept.report)) ts) turn.2 replies) in
    let state : State = state_at found.cfg.engine contents.opening contents.entries stand.0 in
    let is : reply ≡ loaded found.cfg state cookie now = reply_is found.cfg contents.opening contents.entries stand.0 (tag_of server (first + index) 0) (Load cookie now) reply stand.1 stand.2 in
    let shown = page_body settings serves.exchanges 1000 serves.taken serves.written report.end index e response cookie now reply events serves.transcript at route done ok asked in
    let body : response.body ≡ user_line (admitted_in found.cfg state cookie now) =
    shown.1 ∙ ap (λ r. user_line (visit_of shown.0 r).user) is
    ∙ ap user_line (visitor shown.0 (verdict_of found.cfg state cookie now) state.tables.keys (found_user found.cfg.engine state cookie now) _ _) in
    record {
      index = stand.0;
      entered = stand.1;
      page = λ name. (
        λ says. let n = names found.cfg state cookie now name (verdict_of found.cfg state cookie now) (found_user found.cfg.engine state cookie now) exactly refl refl (sym body ∙ says) in
            record { user = n.0; key = n.1; admitted = n.2; name_is = n.3 },
        λ admits. body ∙ named found.cfg state cookie now admits.user admits.key exactly admits.admitted ∙ ap (λ n. codes "user=" ++ line n) admits.name_is,
      );
    }
