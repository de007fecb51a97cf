-- The verdict on a request's protection against forgery, after Django 4.2's `CsrfViewMiddleware` and its REASON_ texts.
use Rattle.std.specs.Prelude.{ℕ, ◌&&◌, ◌||◌, not, Bool, false, if◌then◌else◌, is_none, List, [], ◌∷◌, ◌++◌, codes, Option, None, Some, option_and_then, unwrap_or, Result, Ok, Err}
use Rattle.std.specs.List.{list_any}
use Rattle.std.specs.Option.{option_copied}
use Rattle.std.specs.Str.{bytes_eq}
use Rattle.csrf_tokens.specs.Form.{carried_secret, has_token_length}
use Rattle.csrf_tokens.specs.Hosts.{is_empty, is_same_domain}
use Rattle.csrf_tokens.specs.Letters.{are_letters}
use Rattle.csrf_tokens.specs.Urls.{Url, url_parts}
use Rattle.csrf_tokens.specs.declared.verdict.CsrfReason.{CsrfReason}
use Rattle.csrf_tokens.specs.declared.verdict.CsrfReason.TheVariants.{BadOrigin, NoReferer, MalformedReferer, InsecureReferer, BadReferer, CookieLength, CookieCharacters, NoCookie, TokenMissing, TokenLength, TokenCharacters, TokenIncorrect}
use Rattle.csrf_tokens.specs.declared.verdict.CsrfView.{CsrfView}
use Rattle.csrf_tokens.specs.declared.verdict.Trusted.{Trusted}

-- what a request shows of itself, and what its site trusts
pub record View : Type 0 where
  pub safe : Bool
  pub secure : Bool
  pub host : List ℕ
  pub origin : Option (List ℕ)
  pub referer : Option (List ℕ)
  pub cookie : Option (List ℕ)
  pub field : List ℕ
  pub header : Option (List ℕ)
  pub trusted : List Trusted

-- what a call is given
abbrev pub view_of : CsrfView → View
view_of view = record {
  safe = view.safe;
  secure = view.secure;
  host = view.host.now;
  origin = option_copied view.origin;
  referer = option_copied view.referer;
  cookie = option_copied view.cookie;
  field = view.field.now;
  header = option_copied view.header;
  trusted = view.trusted.now;
}

-- an origin (RFC 6454, section 6.1): its scheme, `://` and its network location
abbrev pub origin_text : List ℕ → List ℕ → List ℕ
origin_text scheme netloc = scheme ++ (codes "://" ++ netloc)

-- the scheme of a request
abbrev pub scheme_of : Bool → List ℕ
scheme_of secure = if secure then codes "https" else codes "http"

-- a wild entry fits a URL of its scheme whose network location matches the entry's as a pattern
abbrev pub fits_url : Trusted → Option Url → Bool
fits_url entry None = false
fits_url entry (Some url) = bytes_eq url.scheme entry.scheme && is_same_domain url.netloc entry.netloc

-- an entry fits an origin: a plain one its own, byte for byte, a wild one by its pattern
abbrev pub fits_origin : Trusted → List ℕ → Bool
fits_origin entry origin = if entry.wild then fits_url entry (url_parts origin) else bytes_eq origin (origin_text entry.scheme entry.netloc)

-- one of the entries fits
abbrev pub is_trusted_origin : List Trusted → List ℕ → Bool
is_trusted_origin trusted origin = list_any (λ (entry : Trusted). fits_origin entry origin) trusted

-- the origin is the request's own, byte for byte, or one that the site trusts
unfoldable pub is_good_origin : View → List ℕ → Bool
is_good_origin view origin = bytes_eq origin (origin_text (scheme_of view.secure) view.host) || is_trusted_origin view.trusted origin

-- the referer has the scheme `https`
abbrev pub is_https : Option Url → Bool
is_https None = false
is_https (Some url) = bytes_eq url.scheme (codes "https")

-- a network location matches that of a trusted entry as a pattern, whatever the entry's scheme
abbrev pub is_trusted_netloc : List Trusted → List ℕ → Bool
is_trusted_netloc trusted netloc = list_any (λ (entry : Trusted). is_same_domain netloc entry.netloc) trusted

-- a network location matches the request's host or a trusted entry's network location as a pattern
unfoldable pub is_good_netloc : View → List ℕ → Bool
is_good_netloc view netloc = is_same_domain netloc view.host || is_trusted_netloc view.trusted netloc

-- the referer has such a network location
abbrev pub is_good_referer : View → Option Url → Bool
is_good_referer view None = false
is_good_referer view (Some url) = is_good_netloc view url.netloc

-- the URL of the referer
abbrev pub referer_url : View → Option Url
referer_url view = option_and_then url_parts view.referer

-- the token that the client sent: the field, or the header where the field is empty
abbrev pub sent_token : View → Option (List ℕ)
sent_token view = if is_empty view.field then view.header else Some view.field

-- a text is given, and it fails the test
abbrev pub fails : (List ℕ → Bool) → Option (List ℕ) → Bool
fails test None = false
fails test (Some text) = not (test text)

-- a token carries the cookie's secret
abbrev pub has_secret_of : Option (List ℕ) → List ℕ → Bool
has_secret_of cookie token = bytes_eq (carried_secret token) (carried_secret (unwrap_or cookie []))

-- the lines of the table that look at the referer, each with the reason that it gives where it holds
abbrev pub referer_lines : View → List (Bool × CsrfReason)
referer_lines view =
    (is_none view.referer, NoReferer)
    ∷ (is_none (referer_url view), MalformedReferer)
    ∷ (not (is_https (referer_url view)), InsecureReferer)
    ∷ (not (is_good_referer view (referer_url view)), BadReferer)
    ∷ []

-- the lines that ask where a request comes from; the referer counts where the request is secure and has no origin
abbrev pub source_lines : View → List (Bool × CsrfReason)
source_lines view =
    (fails (is_good_origin view) view.origin, BadOrigin)
    ∷ (if view.secure && is_none view.origin then referer_lines view else [])

-- the lines that compare the token with the cookie
abbrev pub token_lines : View → List (Bool × CsrfReason)
token_lines view =
    (fails has_token_length view.cookie, CookieLength)
    ∷ (fails are_letters view.cookie, CookieCharacters)
    ∷ (is_none view.cookie, NoCookie)
    ∷ (is_none (sent_token view), TokenMissing)
    ∷ (fails has_token_length (sent_token view), TokenLength)
    ∷ (fails are_letters (sent_token view), TokenCharacters)
    ∷ (fails (has_secret_of view.cookie) (sent_token view), TokenIncorrect)
    ∷ []

-- the reason of the first line that holds
abbrev pub first_reason : List (Bool × CsrfReason) → Result (Unit {0}) CsrfReason
first_reason [] = Ok tt
first_reason (line ∷ rest) = if line.0 then Err line.1 else first_reason rest

-- a safe method passes; else the first line of the table that holds decides
unfoldable pub csrf_verdict : View → Result (Unit {0}) CsrfReason
csrf_verdict view = if view.safe then Ok tt else first_reason (source_lines view ++ token_lines view)
