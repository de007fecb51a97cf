-- Each refusal's page has a status of its own.
use Rattle.std.proofs.Common.{Bool, true, false, not, if◌then◌else◌, Option, Some, None, Result, Ok, Err, arith}
use Rattle.csrf_tokens.specs.Verdict.{csrf_verdict}
use Rattle.csrf_tokens.specs.declared.verdict.CsrfReason.{CsrfReason}
use Rattle.http_edge.specs.ResponseText.{reason_phrase}
use Rattle.http_edge.specs.declared.request.Request.{Request}
use Rattle.middleware_chain.specs.Begun.{HasStatus, begun_at, begun_by, begun_of, begun_on, refused}
use Rattle.middleware_chain.specs.Context.{context_of}
use Rattle.middleware_chain.specs.CsrfView.{csrf_view}
use Rattle.middleware_chain.specs.FieldLimit.{has_too_many_fields}
use Rattle.middleware_chain.specs.Fields.{body_fields}
use Rattle.middleware_chain.specs.HostCheck.{is_allowed}
use Rattle.middleware_chain.specs.Route.{lacks_slash, methods_of, route_of, takes}
use Rattle.middleware_chain.specs.declared.begun.Begun.{Begun}
use Rattle.middleware_chain.specs.declared.begun.Begun.TheVariants.{Go}
use Rattle.middleware_chain.specs.declared.refusal.Refusal.{Refusal}
use Rattle.middleware_chain.specs.declared.refusal.Refusal.TheVariants.{BadHost, NoSlash, NoRoute, OtherMethod, TooManyFields, Csrf}
use Rattle.middleware_chain.specs.declared.route.Route.{Route}
use Rattle.middleware_chain.specs.declared.settings.Settings.{Settings}

refused-status : (refusal : Refusal) (r : Request) → HasStatus (refused refusal r)
unfolding reason_phrase
refused-status BadHost r = omega arith
refused-status NoSlash r = omega arith
refused-status NoRoute r = omega arith
refused-status (OtherMethod methods) r = omega arith
refused-status TooManyFields r = omega arith
refused-status (Csrf reason) r = omega arith

-- what holds both ways of a question
either : (P : Begun → Type 0) (b : Bool) (one other : Begun) → P one → P other → P (if b then one else other)
either P b one other first second = elim b as (λ v. P (if v then one else other)) [ true ↦ first | false ↦ second ]

-- what comes first is a refusal, or its route's way on
pub begun_of-is : (P : Begun → Type 0) (settings : Settings) (r : Request) → ((refusal : Refusal) → P (refused refusal r)) → ((route : Route) → P (Go (context_of route r)))
    → P (begun_of settings r)
unfolding begun_of begun_at
begun_of-is P settings r is_refused goes =
    either P (not (is_allowed settings.allowed r.host)) _ _ (is_refused BadHost) (either P (lacks_slash r.path) _ _ (is_refused NoSlash) (on (route_of r.path)))
  where
    by : (route : Route) (verdict : Result (Unit {0}) CsrfReason) → P (begun_by verdict route r)
    by route (Ok done) = goes route
    by route (Err reason) = is_refused (Csrf reason)

    on : (route : Option Route) → P (begun_on settings r route)
    on None = is_refused NoRoute
    on (Some route) =
        either P (not (takes (methods_of route) r.method)) _ _ (is_refused (OtherMethod (methods_of route)))
        (either P (has_too_many_fields r) _ _ (is_refused TooManyFields) (by route (csrf_verdict (csrf_view settings r (body_fields r)))))

pub begun_of-status : (settings : Settings) (r : Request) → HasStatus (begun_of settings r)
begun_of-status settings r = begun_of-is HasStatus settings r (λ refusal. refused-status refusal r) (λ route. tt)
