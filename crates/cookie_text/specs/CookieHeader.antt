-- The cookies of a `Cookie` header, as Django's `parse_cookie` cuts it; quotes and escapes stay as they are.
use Rattle.std.specs.Prelude.{ℕ, ◌==◌, ◌&&◌, nat_lt, not, Bool, if◌then◌else◌, List, [], length, map, reverse, Option, None, Some}
use Rattle.std.specs.List.{after_first, before_first, filter, find, position_or_len, slice_split}
use Rattle.std.specs.Option.{option_map}
use Rattle.std.specs.Str.{bytes_eq}
use Rattle.crypto_text.specs.WhiteSpace.{trimmed}
use Rattle.cookie_text.specs.declared.cookie_header.Cookie.{Cookie}

abbrev pub is_semicolon : ℕ → Bool
is_semicolon c = c == 59

abbrev pub is_equals_sign : ℕ → Bool
is_equals_sign c = c == 61

-- a piece has a name where there is an equals sign
abbrev pub has_name : List ℕ → Bool
has_name piece = nat_lt (position_or_len is_equals_sign piece) (length piece)

-- what comes before the first equals sign, and what comes after it; without one all is the value
abbrev pub name_part : List ℕ → List ℕ
name_part piece = if has_name piece then before_first is_equals_sign piece else []

abbrev pub value_part : List ℕ → List ℕ
value_part piece = if has_name piece then after_first is_equals_sign piece else piece

-- the cookie of a piece
unfoldable pub cookie_of : List ℕ → Cookie
cookie_of piece = record { name = trimmed (name_part piece); value = trimmed (value_part piece) }

-- a cookie counts where its name or its value has characters
abbrev pub is_kept : Cookie → Bool
is_kept cookie = not ((length cookie.name == 0) && (length cookie.value == 0))

-- the header is cut at each semicolon
unfoldable pub pairs_of : List ℕ → List Cookie
pairs_of header = filter is_kept (map cookie_of (slice_split is_semicolon header))

-- the value of the last cookie of a name
abbrev pub value_of : List Cookie → List ℕ → Option (List ℕ)
value_of cookies name = option_map (λ (cookie : Cookie). cookie.value) (find (λ (cookie : Cookie). bytes_eq cookie.name name) (reverse cookies))

-- the value of a piece of the header, where its cookie has the name
abbrev pub named_value : List ℕ → List ℕ → Option (List ℕ)
named_value piece name = if is_kept (cookie_of piece) && bytes_eq (cookie_of piece).name name then Some (cookie_of piece).value else None
