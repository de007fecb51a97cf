-- The page of a view, and the response that it becomes. Bodies are this project's own.
use Rattle.std.specs.Prelude.{ℕ, true, false, if◌then◌else◌, List, [], ◌∷◌, ◌++◌, Option, Some, None, codes, unwrap_or}
use Rattle.cookie_text.specs.SetCookie.{text_of}
use Rattle.csrf_tokens.specs.Tokens.{masked}
use Rattle.http_edge.specs.declared.response.Response.{Response}
use Rattle.session_codec.specs.declared.expiry.Expiry.{Expiry}
use Rattle.middleware_chain.specs.Page.{line, plain_page}
use Rattle.middleware_chain.specs.declared.settings.Settings.{Settings}
use Rattle.account_views.specs.RandomTexts.{new_secret, token_mask}
use Rattle.account_views.specs.declared.facts.Facts.{Facts}
use Rattle.account_views.specs.declared.page.Page.{Page}

-- a page without a form
abbrev pub text_page : ℕ → List ℕ → Page
text_page status body = record { status = status; body = body; location = None; secret = None }

-- the secret of a page with a form: that of the CSRF cookie, or else a new one
abbrev pub page_secret : List ℕ → Option (List ℕ) → List ℕ
page_secret draw secret = unwrap_or secret (new_secret draw)

-- the first line of a page with a form: its token, as Django's `get_token`
abbrev pub token_line : List ℕ → List ℕ → List ℕ
token_line draw secret = codes "csrf=" ++ line (masked secret (token_mask draw))

-- a page with a form, and more lines; the CSRF cookie's secret is given
abbrev pub form_page : List ℕ → Option (List ℕ) → List ℕ → Page
form_page draw secret lines = record {
  status = 200;
  body = token_line draw (page_secret draw secret) ++ lines;
  location = None;
  secret = Some (page_secret draw secret);
}

-- a redirect without a body; the CSRF cookie is set where a secret is said
abbrev pub redirect_page : List ℕ → Option (List ℕ) → Page
redirect_page location secret = record { status = 302; body = []; location = Some location; secret = secret }

-- ---- cookies

-- Django's CSRF_COOKIE_AGE: a year of 52 weeks
abbrev pub csrf_age : ℕ
csrf_age = 31449600

-- the cookie of a CSRF secret; scripts may read it
abbrev pub csrf_text : Settings → Facts → List ℕ → List ℕ
csrf_text settings facts secret = text_of (record {
  name = codes "csrftoken";
  value = secret;
  age = Some csrf_age;
  now = facts.moment;
  http_only = false;
  secure = settings.cookie_secure;
})

abbrev pub csrf_cookies : Settings → Facts → Option (List ℕ) → List (List ℕ)
csrf_cookies settings facts None = []
csrf_cookies settings facts (Some secret) = csrf_text settings facts secret ∷ []

-- the age of a session's cookie; it has none where it ends with the browser
abbrev pub cookie_age : Expiry → Option ℕ
cookie_age expiry = if expiry.at_close then None else Some expiry.seconds

-- the cookie of a session
abbrev pub session_text : Settings → Facts → Expiry → List ℕ → List ℕ
session_text settings facts expiry value = text_of (record {
  name = codes "sessionid";
  value = value;
  age = cookie_age expiry;
  now = facts.moment;
  http_only = true;
  secure = settings.cookie_secure;
})

-- ---- responses

-- the response with a page, which depends on the request's cookies: the CSRF cookie comes before the session's
abbrev pub page_response : Settings → Facts → Page → List (List ℕ) → Response
page_response settings facts page cookies = record {
  status = page.status;
  body = page.body;
  location = page.location;
  allow = None;
  vary = true;
  cookies = csrf_cookies settings facts page.secret ++ cookies;
  keep = facts.delivery.keep;
  head_only = facts.delivery.head_only;
}

-- the response to a request whose session couldn't be written: no cookie is set
abbrev pub unwritten_response : Facts → ℕ → List ℕ → Response
unwritten_response facts status body = record (plain_page status body facts.delivery) { vary = true }
