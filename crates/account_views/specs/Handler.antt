-- The script of a request: it is refused before any step, or its session is loaded, its route's view goes on with who
-- came, and then the session is written.
use Rattle.std.specs.Prelude.{ℕ, Bool, if◌then◌else◌, is_some, List, Option, codes}
use Rattle.http_edge.specs.declared.request.Request.{Request}
use Rattle.http_edge.specs.declared.response.Response.{Response}
use Rattle.ledger_rows.specs.declared.operation.Op.TheVariants.{Load}
use Rattle.ledger_rows.specs.declared.reply.Reply.{Reply}
use Rattle.middleware_chain.specs.Begun.{begun_of}
use Rattle.middleware_chain.specs.Page.{delivery_of, plain_page}
use Rattle.middleware_chain.specs.declared.begun.Begun.{Begun}
use Rattle.middleware_chain.specs.declared.begun.Begun.TheVariants.{Answer, Go}
use Rattle.middleware_chain.specs.declared.context.Context.{Context}
use Rattle.middleware_chain.specs.declared.settings.Settings.{Settings}
use Rattle.account_views.specs.Basis.{Basis}
use Rattle.account_views.specs.Script.{Steps, Return, Ask, and_then}
use Rattle.account_views.specs.SessionWrite.{written}
use Rattle.account_views.specs.View.{has_view, view}
use Rattle.account_views.specs.Visit.{visit_of}
use Rattle.account_views.specs.declared.call.Call.{Call}
use Rattle.account_views.specs.declared.facts.Facts.{Facts}

-- with the reply to the load, where a session cookie came or not
abbrev pub after_load : Basis → Bool → Call → Reply → Steps Response
after_load basis came call reply = and_then (view basis call (visit_of came reply)) (written basis)

-- what a request shows to the view of its route
abbrev pub call_of : Context → Call
call_of context = record { route = context.route; post = context.post; fields = context.fields; query = context.query; secret = context.secret }

-- a route without a view is answered as if there were none
abbrev pub no_view : Basis → Steps Response
no_view basis = Return (plain_page 404 (codes "error=no-route\n") basis.facts.delivery)

abbrev pub loading : Basis → Option (List ℕ) → Call → Steps Response
loading basis cookie call = Ask (Load cookie basis.facts.moment) (after_load basis (is_some cookie) call)

-- by what came first of the request
abbrev pub script_of : Basis → Begun → Steps Response
script_of basis (Answer response) = Return response
script_of basis (Go context) = if has_view context.route then loading basis context.session (call_of context) else no_view basis

-- a request's moment, and what its response takes over from it
abbrev pub facts_of : Request → ℕ → Facts
facts_of r moment = record { moment = moment; delivery = delivery_of r }

-- what a request goes by, at a moment and with its random words
abbrev pub request_basis : Settings → Request → ℕ → List ℕ → Basis
request_basis settings r moment draw = record { settings = settings; facts = facts_of r moment; draw = draw }

abbrev pub script : Settings → Request → ℕ → List ℕ → Steps Response
script settings r moment draw = script_of (request_basis settings r moment draw) (begun_of settings r)
