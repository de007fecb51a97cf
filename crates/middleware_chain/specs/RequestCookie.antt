-- The cookies of a request that a site reads: the last of their name, as Django takes it.
use Rattle.std.specs.Prelude.{ℕ, ◌&&◌, if◌then◌else◌, List, Option, Some, None, codes}
use Rattle.cookie_text.specs.CookieHeader.{pairs_of, value_of}
use Rattle.csrf_tokens.specs.Form.{carried_secret, has_token_length}
use Rattle.csrf_tokens.specs.Letters.{are_letters}

-- the value of a name in the `Cookie` header
unfoldable pub request_cookie : List ℕ → Option (List ℕ) → Option (List ℕ)
request_cookie name None = None
request_cookie name (Some header) = value_of (pairs_of header) name

-- Django's SESSION_COOKIE_NAME
abbrev pub session_cookie : Option (List ℕ) → Option (List ℕ)
session_cookie header = request_cookie (codes "sessionid") header

-- Django's CSRF_COOKIE_NAME
abbrev pub csrf_cookie : Option (List ℕ) → Option (List ℕ)
csrf_cookie header = request_cookie (codes "csrftoken") header

-- the secret that a CSRF cookie carries, where it is in form
abbrev pub secret_in : Option (List ℕ) → Option (List ℕ)
secret_in None = None
secret_in (Some text) = if has_token_length text && are_letters text then Some (carried_secret text) else None
