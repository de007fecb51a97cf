-- How compact JSON text becomes ASCII: its short escapes are there already, so each character above
-- 0x7e is escaped and all else stays. For private clauses.
use Rattle.std.specs.Prelude.{ℕ, List, [], ◌∷◌, ◌++◌, cond, nat_lt, flat_map}
use Rattle.std.specs.Str.{chars}
use Rattle.ascii_json.specs.AsciiJson.{high_surrogate, low_surrogate, unicode_escape}

-- what becomes of a character
unfoldable pub escaped_beyond_ascii : ℕ → List ℕ
escaped_beyond_ascii c = cond (nat_lt c 127) (c ∷ []) (cond (nat_lt c 0x10000) (unicode_escape c) (unicode_escape (high_surrogate c) ++ unicode_escape (low_surrogate c)))

-- what becomes of a text
unfoldable pub escaped_text : List ℕ → List ℕ
escaped_text text = flat_map escaped_beyond_ascii (chars text)
