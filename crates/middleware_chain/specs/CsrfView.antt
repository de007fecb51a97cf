-- What a request shows to the check against forgery, as Django's `CsrfViewMiddleware` takes it.
use Rattle.std.specs.Prelude.{ℕ, ◌&&◌, Bool, false, bytes_eq, List, [], codes, Option, Some, None, unwrap_or}
use Rattle.csrf_tokens.specs.Verdict.{View}
use Rattle.http_edge.specs.declared.form_field.Field.{Field}
use Rattle.http_edge.specs.declared.request.Request.{Request}
use Rattle.middleware_chain.specs.Fields.{last_value}
use Rattle.middleware_chain.specs.RequestCookie.{csrf_cookie}
use Rattle.middleware_chain.specs.Route.{reads}
use Rattle.middleware_chain.specs.declared.settings.Settings.{Settings}

-- the proxy says `https`
abbrev pub is_https : Option (List ℕ) → Bool
is_https None = false
is_https (Some proto) = bytes_eq proto (codes "https")

-- a request came by HTTPS where the site trusts its proxy to say so, as Django's SECURE_PROXY_SSL_HEADER
abbrev pub is_secure : Settings → Request → Bool
is_secure settings r = settings.proxy_secure && is_https r.proto

-- the field `csrfmiddlewaretoken` is Django's
unfoldable pub csrf_view : Settings → Request → List Field → View
csrf_view settings r fields = record {
  safe = reads r.method;
  secure = is_secure settings r;
  host = unwrap_or r.host [];
  origin = r.origin;
  referer = r.referer;
  cookie = csrf_cookie r.cookie;
  field = last_value (codes "csrfmiddlewaretoken") fields;
  header = r.csrf;
  trusted = settings.trusted;
}
