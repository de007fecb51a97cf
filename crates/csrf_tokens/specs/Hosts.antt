-- Hosts, after Django 4.2's `split_domain_port`, `is_same_domain` and `validate_host`. That ASCII letters alone are
-- compared without case, and that nothing may follow a host, not even a line feed, is this project's own.
use Rattle.std.specs.Prelude.{ℕ, ◌==◌, ◌+◌, ◌&&◌, ◌||◌, not, nat_eq, Bool, false, if◌then◌else◌, is_some, List, [], codes, drop, length, map, take, Option, None, Some, unwrap_or}
use Rattle.std.specs.Char.{is_ascii_alphanumeric, is_ascii_digit, is_ascii_hexdigit, to_ascii_lowercase}
use Rattle.std.specs.List.{after_first, before_first, ends_with, list_all, list_any, position_or_len}
use Rattle.std.specs.Option.{option_map, option_map_or}
use Rattle.std.specs.Str.{bytes_eq}
use Rattle.csrf_tokens.specs.Marks.{after_mark, before_mark}
use Rattle.csrf_tokens.specs.declared.hosts.HostParts.{HostParts}

-- a host's domain and its port, which is empty where none is given
pub record Host : Type 0 where
  pub domain : List ℕ
  pub port : List ℕ

-- the parts that a call gives
abbrev pub host_of : HostParts → Host
host_of parts = record { domain = parts.domain.now; port = parts.port.now }

-- the text has no bytes
abbrev pub is_empty : List ℕ → Bool
is_empty text = length text == 0

-- a byte of a plain name: `a-z A-Z 0-9 . -`
abbrev pub is_name_byte : ℕ → Bool
is_name_byte c = is_ascii_alphanumeric c || (c == 46) || (c == 45)

-- a plain name: one or more of them
abbrev pub is_plain_name : List ℕ → Bool
is_plain_name name = not (is_empty name) && list_all is_name_byte name

-- a byte of an IPv6 address after its first colon: a hex digit, a dot or a colon
abbrev pub is_address_byte : ℕ → Bool
is_address_byte c = is_ascii_hexdigit c || (c == 46) || (c == 58)

-- `:`
abbrev pub is_colon : ℕ → Bool
is_colon c = c == 58

-- what follows the first colon of an address: one or more such bytes
abbrev pub is_address_rest : List ℕ → Bool
is_address_rest rest = not (is_empty rest) && list_all is_address_byte rest

-- an IPv6 address: any number of hex digits, a colon, and what may follow it
unfoldable pub is_address : List ℕ → Bool
is_address text = list_all is_ascii_hexdigit (before_first is_colon text) && is_address_rest (after_first is_colon text)

-- an IP literal (RFC 3986, section 3.2.2): an address in brackets
unfoldable pub is_literal : List ℕ → Bool
is_literal name = option_map_or (λ rest. option_map_or is_address (before_mark 93 rest) false) (after_mark 91 name) false

-- a host's name: a plain one or an IP literal
abbrev pub is_host_name : List ℕ → Bool
is_host_name name = is_plain_name name || is_literal name

-- where the name ends: with the first `]` where it begins with `[`, else before the first colon
abbrev pub name_length : List ℕ → ℕ
name_length host = if is_some (after_mark 91 host) then position_or_len (λ b. b == 93) host + 1 else position_or_len is_colon host

-- the name of a host
unfoldable pub name_part : List ℕ → List ℕ
name_part host = take (name_length host) host

-- what follows it
unfoldable pub rest_part : List ℕ → List ℕ
rest_part host = drop (name_length host) host

-- one or more digits
abbrev pub is_port : List ℕ → Bool
is_port digits = not (is_empty digits) && list_all is_ascii_digit digits

-- the digits after a colon, where they are a port
abbrev pub port_in : Option (List ℕ) → Option (List ℕ)
port_in None = None
port_in (Some digits) = if is_port digits then Some digits else None

-- the port of what follows a name: empty where nothing does, else the digits after a colon
abbrev pub port_of : List ℕ → Option (List ℕ)
port_of rest = if is_empty rest then Some [] else port_in (after_mark 58 rest)

-- a name without one dot at its end
abbrev pub domain_of : List ℕ → List ℕ
domain_of name = unwrap_or (before_mark 46 name) name

-- the domain and the port of a host
unfoldable pub split_host : List ℕ → Option Host
split_host host =
    if is_host_name (name_part host) then option_map (λ port. record { domain = domain_of (name_part host); port = port }) (port_of (rest_part host))
    else None

-- in ASCII lower case
abbrev pub lowered : List ℕ → List ℕ
lowered text = map to_ascii_lowercase text

-- the host is the pattern; where that begins with a dot, the host ends with it or is the rest of it; an empty pattern
-- matches no host
unfoldable pub is_same_domain : List ℕ → List ℕ → Bool
is_same_domain host pattern =
    option_map_or (λ rest. ends_with nat_eq (lowered host) (lowered pattern) || bytes_eq (lowered host) (lowered rest)) (after_mark 46 pattern)
    (not (is_empty pattern) && bytes_eq (lowered host) (lowered pattern))

-- a pattern of allowed hosts matches the domain; `*` matches each
abbrev pub matches_pattern : List ℕ → List ℕ → Bool
matches_pattern domain pattern = bytes_eq pattern (codes "*") || is_same_domain domain pattern

-- the domain isn't empty, and one of the patterns matches it
abbrev pub is_allowed_domain : List (List ℕ) → List ℕ → Bool
is_allowed_domain allowed domain = not (is_empty domain) && list_any (matches_pattern domain) allowed

-- the host is one that ALLOWED_HOSTS allows; its port isn't compared
unfoldable pub host_allowed : List ℕ → List (List ℕ) → Bool
host_allowed host allowed = option_map_or (λ (parts : Host). is_allowed_domain allowed parts.domain) (split_host host) false
