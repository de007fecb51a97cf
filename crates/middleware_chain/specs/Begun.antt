-- What comes first of a request: the first refusal that holds, or what its route goes on with. The order is this
-- project's own.
use Rattle.std.specs.Prelude.{not, if◌then◌else◌, Option, Some, None, Result, Ok, Err}
use Rattle.csrf_tokens.specs.Verdict.{csrf_verdict}
use Rattle.csrf_tokens.specs.declared.verdict.CsrfReason.{CsrfReason}
use Rattle.http_edge.specs.ResponseText.{IsStatus}
use Rattle.http_edge.specs.declared.request.Request.{Request}
use Rattle.middleware_chain.specs.Context.{context_of}
use Rattle.middleware_chain.specs.CsrfView.{csrf_view}
use Rattle.middleware_chain.specs.FieldLimit.{has_too_many_fields}
use Rattle.middleware_chain.specs.Fields.{body_fields}
use Rattle.middleware_chain.specs.HostCheck.{is_allowed}
use Rattle.middleware_chain.specs.Refusal.{refusal_page}
use Rattle.middleware_chain.specs.Route.{lacks_slash, methods_of, route_of, takes}
use Rattle.middleware_chain.specs.declared.begun.Begun.{Begun}
use Rattle.middleware_chain.specs.declared.begun.Begun.TheVariants.{Answer, Go}
use Rattle.middleware_chain.specs.declared.refusal.Refusal.{Refusal}
use Rattle.middleware_chain.specs.declared.refusal.Refusal.TheVariants.{BadHost, NoSlash, NoRoute, OtherMethod, TooManyFields, Csrf}
use Rattle.middleware_chain.specs.declared.route.Route.{Route}
use Rattle.middleware_chain.specs.declared.settings.Settings.{Settings}

-- the page of a refusal
abbrev pub refused : Refusal → Request → Begun
refused refusal r = Answer (refusal_page refusal r)

-- by the verdict on forgery
abbrev pub begun_by : Result (Unit {0}) CsrfReason → Route → Request → Begun
begun_by (Ok done) route r = Go (context_of route r)
begun_by (Err reason) route r = refused (Csrf reason) r

-- the route is there: its methods, the number of fields, and where the request comes from
unfoldable pub begun_at : Settings → Request → Route → Begun
begun_at settings r route =
    if not (takes (methods_of route) r.method) then refused (OtherMethod (methods_of route)) r
    else (if has_too_many_fields r then refused TooManyFields r
    else begun_by (csrf_verdict (csrf_view settings r (body_fields r))) route r)

-- there is a route, or none
abbrev pub begun_on : Settings → Request → Option Route → Begun
begun_on settings r None = refused NoRoute r
begun_on settings r (Some route) = begun_at settings r route

-- what comes first of a request
unfoldable pub begun_of : Settings → Request → Begun
begun_of settings r =
    if not (is_allowed settings.allowed r.host) then refused BadHost r
    else (if lacks_slash r.path then refused NoSlash r
    else begun_on settings r (route_of r.path))

-- a response has a status that `response_text` takes
abbrev pub HasStatus : Begun → Type 0
HasStatus (Answer page) = IsStatus page.status
HasStatus (Go context) = Unit {0}
