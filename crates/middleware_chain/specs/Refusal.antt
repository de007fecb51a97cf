-- The pages of requests that are refused before any step: bodies and codes are this project's own.
use Rattle.std.specs.Prelude.{ℕ, List, [], ◌++◌, Some, codes}
use Rattle.csrf_tokens.specs.declared.verdict.CsrfReason.{CsrfReason}
use Rattle.csrf_tokens.specs.declared.verdict.CsrfReason.TheVariants.{BadOrigin, NoReferer, MalformedReferer, InsecureReferer, BadReferer, NoCookie, CookieLength, CookieCharacters, TokenMissing, TokenLength, TokenCharacters, TokenIncorrect}
use Rattle.http_edge.specs.declared.request.Request.{Request}
use Rattle.http_edge.specs.declared.response.Response.{Response}
use Rattle.middleware_chain.specs.Page.{delivery_of, plain_page}
use Rattle.middleware_chain.specs.Route.{allow_text}
use Rattle.middleware_chain.specs.SlashTarget.{slash_target}
use Rattle.middleware_chain.specs.declared.refusal.Refusal.{Refusal}
use Rattle.middleware_chain.specs.declared.refusal.Refusal.TheVariants.{BadHost, NoSlash, NoRoute, OtherMethod, TooManyFields, Csrf}

-- the body of a request that may be forged, by what is wrong with it
unfoldable pub csrf_body : CsrfReason → List ℕ
csrf_body BadOrigin = codes "error=csrf-bad-origin\n"
csrf_body NoReferer = codes "error=csrf-no-referer\n"
csrf_body MalformedReferer = codes "error=csrf-malformed-referer\n"
csrf_body InsecureReferer = codes "error=csrf-insecure-referer\n"
csrf_body BadReferer = codes "error=csrf-bad-referer\n"
csrf_body NoCookie = codes "error=csrf-no-cookie\n"
csrf_body CookieLength = codes "error=csrf-cookie-length\n"
csrf_body CookieCharacters = codes "error=csrf-cookie-characters\n"
csrf_body TokenMissing = codes "error=csrf-token-missing\n"
csrf_body TokenLength = codes "error=csrf-token-length\n"
csrf_body TokenCharacters = codes "error=csrf-token-characters\n"
csrf_body TokenIncorrect = codes "error=csrf-token-incorrect\n"

-- the page of a request that is refused so
abbrev pub refusal_page : Refusal → Request → Response
refusal_page BadHost r = plain_page 400 (codes "error=bad-host\n") (delivery_of r)
refusal_page NoSlash r = record (plain_page 301 [] (delivery_of r)) { location = Some (slash_target r) }
refusal_page NoRoute r = plain_page 404 (codes "error=no-route\n") (delivery_of r)
refusal_page (OtherMethod methods) r = record (plain_page 405 (codes "error=method\n") (delivery_of r)) { allow = Some (allow_text methods) }
refusal_page TooManyFields r = plain_page 400 (codes "error=too-many-fields\n") (delivery_of r)
refusal_page (Csrf reason) r = plain_page 403 (csrf_body reason) (delivery_of r)
