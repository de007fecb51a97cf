-- The origins that a settings file trusts, as Django's CSRF_TRUSTED_ORIGINS: `scheme://host`, or `scheme://*.domain` for
-- each host that ends with `.domain`.
use Rattle.std.specs.Prelude.{ℕ, true, false, bytes_eq, if◌then◌else◌, is_some, List, Option, Some, None, option_and_then}
use Rattle.std.specs.Option.{option_map_or}
use Rattle.serde_json.specs.Data.{Data}
use Rattle.serde_json.specs.Find.{as_str}
use Rattle.csrf_tokens.specs.Marks.{after_mark}
use Rattle.csrf_tokens.specs.Urls.{Url, url_parts}
use Rattle.csrf_tokens.specs.Verdict.{origin_text}
use Rattle.csrf_tokens.specs.declared.verdict.Trusted.{Trusted}

-- what follows the star of a network location that begins with `*.`
unfoldable pub after_star : List ℕ → Option (List ℕ)
after_star netloc = option_and_then (λ rest. if is_some (after_mark 46 rest) then Some rest else None) (after_mark 42 netloc)

-- a wild entry keeps what follows the star
abbrev pub entry_of : Url → Trusted
entry_of url = option_map_or (λ rest. record { scheme = url.scheme; netloc = rest; wild = true }) (after_star url.netloc)
    (record { scheme = url.scheme; netloc = url.netloc; wild = false })

-- a URL with nothing after its network location
unfoldable pub trusted_in : List ℕ → Option Trusted
trusted_in text = option_and_then (λ url. if bytes_eq text (origin_text url.scheme url.netloc) then Some (entry_of url) else None) (url_parts text)

abbrev pub trusted_value : Data → Option Trusted
trusted_value d = option_and_then trusted_in (as_str d)
