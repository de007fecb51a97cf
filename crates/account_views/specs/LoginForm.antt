-- The fields of a login's form.
use Rattle.std.specs.Prelude.{ℕ, ◌==◌, Bool, false, ◌&&◌, ◌||◌, not, nat_lt, if◌then◌else◌, List, [], ◌∷◌, length, codes}
use Rattle.std.specs.Char.{is_ascii_graphic}
use Rattle.std.specs.List.{list_all}
use Rattle.ledger_rows.specs.Form.{is_name_byte}

-- a name that a user can have
unfoldable pub is_user_name : List ℕ → Bool
is_user_name name = nat_lt 0 (length name) && (nat_lt (length name) 151 && list_all is_name_byte name)

-- a path from the root on; after `//` and `/\` a browser takes what follows for another host
abbrev pub is_rooted : List ℕ → Bool
is_rooted [] = false
is_rooted (first ∷ []) = first == 47
is_rooted (first ∷ second ∷ rest) = (first == 47) && not ((second == 47) || (second == 92))

-- a path of this site: at most 2,000 bytes, each from `!` to `~`
unfoldable pub is_next : List ℕ → Bool
is_next next = nat_lt (length next) 2001 && (list_all is_ascii_graphic next && is_rooted next)

-- where a login leads: where the form says, or else to who one is
abbrev pub target_of : List ℕ → List ℕ
target_of next = if is_next next then next else codes "/whoami/"
