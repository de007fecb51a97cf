-- The scheme and the network location of a URL (RFC 3986, sections 3.1 and 3.2), as far as origins (RFC 6454, section 4)
-- and referers need them. That nothing else of the URL is looked at is this project's own.
use Rattle.std.specs.Prelude.{ℕ, ◌==◌, ◌&&◌, ◌||◌, not, Bool, false, if◌then◌else◌, List, [], ◌∷◌, Option, None, Some, option_and_then}
use Rattle.std.specs.Char.{is_ascii_alphabetic, is_ascii_alphanumeric}
use Rattle.std.specs.List.{after_first, before_first, list_all}
use Rattle.csrf_tokens.specs.Hosts.{is_colon, is_empty}
use Rattle.csrf_tokens.specs.Marks.{after_mark}
use Rattle.csrf_tokens.specs.declared.urls.UrlParts.{UrlParts}

-- a URL's scheme and its network location
pub record Url : Type 0 where
  pub scheme : List ℕ
  pub netloc : List ℕ

-- the parts that a call gives
abbrev pub url_of : UrlParts → Url
url_of parts = record { scheme = parts.scheme.now; netloc = parts.netloc.now }

-- letters, digits, `+`, `-` and `.`
abbrev pub is_scheme_byte : ℕ → Bool
is_scheme_byte c = is_ascii_alphanumeric c || (c == 43) || (c == 45) || (c == 46)

-- a letter, and then such bytes
abbrev pub is_scheme : List ℕ → Bool
is_scheme [] = false
is_scheme (c ∷ rest) = is_ascii_alphabetic c && list_all is_scheme_byte rest

-- `/`, `?` and `#`, which end a network location
abbrev pub is_delimiter : ℕ → Bool
is_delimiter c = (c == 47) || (c == 63) || (c == 35)

-- what comes before the first of them
unfoldable pub netloc_of : List ℕ → List ℕ
netloc_of rest = before_first is_delimiter rest

-- what follows two slashes
abbrev pub after_slashes : List ℕ → Option (List ℕ)
after_slashes rest = option_and_then (after_mark 47) (after_mark 47 rest)

-- the URL of a scheme and a network location, where both are in form
abbrev pub url_with : List ℕ → List ℕ → Option Url
url_with scheme netloc = if is_scheme scheme && not (is_empty netloc) then Some (record { scheme = scheme; netloc = netloc }) else None

-- a URL is cut at its first `://`; a scheme has no colon, so this is the first colon
unfoldable pub url_parts : List ℕ → Option Url
url_parts text = option_and_then (λ rest. url_with (before_first is_colon text) (netloc_of rest)) (after_slashes (after_first is_colon text))
