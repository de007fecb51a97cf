-- The page of a view is shown where the response is no error; so it is of `/whoami/`.
use Rattle.std.proofs.Common.{◌≡◌, ℕ, zero, suc, Bool, true, false, if◌then◌else◌, ◌&&◌, not, is_some, Result, Ok, Err, List, [], ◌∷◌, Option, Some, None, refl, sym, subst, arith}
use Rattle.csrf_tokens.specs.Verdict.{csrf_verdict}
use Rattle.csrf_tokens.specs.declared.verdict.CsrfReason.{CsrfReason}
use Rattle.http_edge.specs.declared.request.Request.{Request}
use Rattle.http_edge.specs.declared.response.Response.{Response}
use Rattle.ledger_rows.specs.declared.operation.Op.TheVariants.{Load}
use Rattle.ledger_rows.specs.declared.reply.Reply.{Reply}
use Rattle.middleware_chain.specs.Begun.{begun_at, begun_by, begun_of, begun_on}
use Rattle.middleware_chain.specs.Context.{context_of}
use Rattle.middleware_chain.specs.CsrfView.{csrf_view}
use Rattle.middleware_chain.specs.FieldLimit.{has_too_many_fields}
use Rattle.middleware_chain.specs.Fields.{body_fields}
use Rattle.middleware_chain.specs.HostCheck.{is_allowed}
use Rattle.middleware_chain.specs.RequestCookie.{session_cookie}
use Rattle.middleware_chain.specs.Route.{lacks_slash, methods_of, route_of, takes}
use Rattle.middleware_chain.specs.declared.begun.Begun.{Begun}
use Rattle.middleware_chain.specs.declared.begun.Begun.TheVariants.{Answer, Go}
use Rattle.middleware_chain.specs.declared.route.Route.{Route}
use Rattle.middleware_chain.specs.declared.route.Route.TheVariants.{Whoami}
use Rattle.middleware_chain.specs.declared.settings.Settings.{Settings}
use Rattle.account_views.specs.Basis.{Basis}
use Rattle.account_views.specs.Handler.{script_of}
use Rattle.account_views.specs.Script.{Steps, Return, Ask}
use Rattle.account_views.specs.SessionWrite.{after_delete, after_save, after_try, attempt_by, deleting, holds_nothing, kept, placing, save_op, saved}
use Rattle.account_views.specs.Visit.{visit_of}
use Rattle.account_views.specs.Walk.{Event, Leads}
use Rattle.account_views.specs.Whoami.{user_line, whoami}
use Rattle.account_views.specs.declared.page.Viewed.{Viewed}
use Rattle.account_views.specs.declared.session_write.Attempt.{Attempt}
use Rattle.account_views.specs.declared.session_write.Attempt.TheVariants.{KeyTaken, SessionGone, Written}

-- every response at the end of a script is such a one
AllEnds : (Response → Type 0) → Steps Response → Type 0
AllEnds P (Return response) = P response
AllEnds P (Ask op rest) = (reply : Reply) → AllEnds P (rest reply)

end_of : (P : Response → Type 0) (script : Steps Response) (events : List Event) (response : Response) → Leads script events (Return response) → AllEnds P script → P response
unfolding AllEnds
end_of P script [] response leads all = subst (AllEnds P) (sym leads) all
end_of P (Return other) (event ∷ events) response leads all = absurd leads
end_of P (Ask op rest) (event ∷ events) response leads all = end_of P (rest event.reply) events response leads.1 (all event.reply)

-- a response that isn't an error shows the page of the view
Shows : Viewed → Response → Type 0
Shows v response = response.status ≡ 200 → response.body ≡ v.page.body

module _ (basis : Basis) (v : Viewed) where
  tried-shows : (attempt : Attempt) (more : Steps Response) → AllEnds (Shows v) more → AllEnds (Shows v) (after_try basis.settings basis.facts v attempt more)
  unfolding AllEnds Shows
  tried-shows (Written cookie) more shows = λ ok. refl
  tried-shows KeyTaken more shows = shows
  tried-shows SessionGone more shows = λ ok. absurd (omega (arith, ok))

  placing-shows : (old : Option (List ℕ)) (left : ℕ) → AllEnds (Shows v) (placing basis v old left)
  unfolding AllEnds Shows placing
  placing-shows old zero = λ ok. absurd (omega (arith, ok))
  placing-shows old (suc left) = λ reply. tried-shows (attempt_by reply) (placing basis v old left) (placing-shows old left)

  save-shows : (attempt : Attempt) → Shows v (after_save basis.settings basis.facts v attempt)
  unfolding Shows
  save-shows (Written cookie) = λ ok. refl
  save-shows KeyTaken = λ ok. absurd (omega (arith, ok))
  save-shows SessionGone = λ ok. absurd (omega (arith, ok))

  saved-shows : (key : Option (List ℕ)) → AllEnds (Shows v) (saved basis v key)
  unfolding AllEnds
  saved-shows None = placing-shows None 16
  saved-shows (Some key) = on v.session.cycle
    where
      on : (cycle : Bool) → AllEnds (Shows v) (if cycle then placing basis v (Some key) 16 else Ask (save_op basis.facts v key) (λ reply. Return (after_save basis.settings basis.facts v (attempt_by reply))))
      on true = placing-shows (Some key) 16
      on false = λ reply. save-shows (attempt_by reply)

  deleted-shows : AllEnds (Shows v) (after_delete basis v)
  unfolding AllEnds Shows
  deleted-shows = on (v.session.modified && not (holds_nothing v.session))
    where
      on : (changed : Bool) → AllEnds (Shows v) (if changed then saved basis v v.session.key else Return (kept basis.settings basis.facts v))
      on true = saved-shows v.session.key
      on false = λ ok. refl

  written-shows : (dropped : Option (List ℕ)) → AllEnds (Shows v) (deleting basis v dropped)
  unfolding AllEnds
  written-shows None = deleted-shows
  written-shows (Some key) = λ reply. deleted-shows

-- what comes first of a request for a route is a refusal, or the route's way on
begun_at-is : (P : Begun → Type 0) (settings : Settings) (r : Request) (route : Route) → route_of r.path ≡ Some route
    → ((page : Response) → P (Answer page)) → P (Go (context_of route r)) → P (begun_of settings r)
unfolding begun_of begun_at
begun_at-is P settings r route is refused goes =
    either (not (is_allowed settings.allowed r.host)) _ _ (refused _) (either (lacks_slash r.path) _ _ (refused _) (subst (λ o. P (begun_on settings r o)) (sym is) at))
  where
    either : (b : Bool) (one other : Begun) → P one → P other → P (if b then one else other)
    either b one other first second = elim b as (λ v. P (if v then one else other)) [ true ↦ first | false ↦ second ]

    by : (verdict : Result (Unit {0}) CsrfReason) → P (begun_by verdict route r)
    by (Ok done) = goes
    by (Err reason) = refused _

    at : P (begun_at settings r route)
    at = either (not (takes (methods_of route) r.method)) _ _ (refused _) (either (has_too_many_fields r) _ _ (refused _) (by (csrf_verdict (csrf_view settings r (body_fields r)))))

-- the page of a request that asked who is there
abbrev pub HasPage : Basis → Begun → Type 0
HasPage basis begun = (cookie : Option (List ℕ)) (now : ℕ) (reply : Reply) (others : List Event) (response : Response)
    → Leads (script_of basis begun) (record { op = Load cookie now; reply = reply } ∷ others) (Return response) → response.status ≡ 200
    → (came : Bool) × (response.body ≡ user_line (visit_of came reply).user)

pub body_of : (settings : Settings) (r : Request) (basis : Basis) → route_of r.path ≡ Some Whoami → HasPage basis (begun_of settings r)
unfolding context_of Shows
body_of settings r basis route =
    begun_at-is (HasPage basis) settings r Whoami route (λ page. λ cookie now reply others response leads ok. absurd leads)
    (λ cookie now reply others response leads ok.
    let came : Bool = is_some (session_cookie r.cookie) in
    let v : Viewed = whoami (visit_of came reply) in
    (came, end_of (Shows v) (deleting basis v v.session.dropped) others response leads.1 (written-shows basis v v.session.dropped) ok))
