-- Whether a site answers to a request's host, as Django's `get_host` with `ALLOWED_HOSTS`.
use Rattle.std.specs.Prelude.{ℕ, Bool, false, List, Option, Some, None}
use Rattle.csrf_tokens.specs.Hosts.{host_allowed}

-- a request without a host has none that is allowed
abbrev pub is_allowed : List (List ℕ) → Option (List ℕ) → Bool
is_allowed hosts None = false
is_allowed hosts (Some host) = host_allowed host hosts
