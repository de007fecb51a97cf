-- The grammar of hosts, as the pattern `host_validation_re` of Django 4.2 has it; an IP literal is that of RFC 3986,
-- section 3.2.2. A law says that `split_host` reads exactly these hosts.
use Rattle.std.specs.Prelude.{◌≡◌, ◌⊎◌, ℕ, ◌<◌, true, List, [], ◌∷◌, ◌++◌, length}
use Rattle.std.specs.Char.{is_ascii_digit, is_ascii_hexdigit}
use Rattle.std.specs.List.{list_all}
use Rattle.csrf_tokens.specs.Hosts.{Host, domain_of, is_address_byte, is_name_byte}

-- one or more letters, digits, dots and hyphens
pub record IsPlainName (name : List ℕ) : Type 0 where
  pub some : 0 < length name
  pub bytes : list_all is_name_byte name ≡ true

-- `[`, any number of hex digits, `:`, one or more hex digits, dots and colons, and `]`
pub record IsLiteral (name : List ℕ) : Type 0 where
  pub group : List ℕ
  pub rest : List ℕ
  pub whole : name ≡ 91 ∷ (group ++ 58 ∷ (rest ++ 93 ∷ []))
  pub group_digits : list_all is_ascii_hexdigit group ≡ true
  pub some : 0 < length rest
  pub rest_bytes : list_all is_address_byte rest ≡ true

-- what follows the name: nothing, or a colon and one or more digits
abbrev pub port_suffix : List ℕ → List ℕ
port_suffix [] = []
port_suffix (digit ∷ digits) = 58 ∷ digit ∷ digits

-- the host is a name and a port, and the domain is the name without one dot at its end
pub record IsHost (host : List ℕ) (parts : Host) : Type 0 where
  pub name : List ℕ
  pub whole : host ≡ name ++ port_suffix parts.port
  pub named : IsPlainName name ⊎ IsLiteral name
  pub digits : list_all is_ascii_digit parts.port ≡ true
  pub dotless : parts.domain ≡ domain_of name
