-- What a request's route goes on with.
use Rattle.http_edge.specs.FormFields.{fields_of}
use Rattle.http_edge.specs.declared.request.Request.{Request}
use Rattle.middleware_chain.specs.Fields.{body_fields}
use Rattle.middleware_chain.specs.RequestCookie.{csrf_cookie, secret_in, session_cookie}
use Rattle.middleware_chain.specs.Route.{sends}
use Rattle.middleware_chain.specs.declared.context.Context.{Context}
use Rattle.middleware_chain.specs.declared.route.Route.{Route}

-- its route, the fields of its form and of its query, and what its two cookies hold
unfoldable pub context_of : Route → Request → Context
context_of route r = record {
  route = route;
  post = sends r.method;
  fields = body_fields r;
  query = fields_of r.query;
  session = session_cookie r.cookie;
  secret = secret_in (csrf_cookie r.cookie);
}
