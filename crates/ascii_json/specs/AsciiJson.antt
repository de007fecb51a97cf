-- JSON text in ASCII, as Python's `json.dumps` writes it with sorted keys and without spaces.
use Rattle.std.specs.Prelude.{ℕ, ◌<◌, ◌≤◌, ◌+◌, ◌-◌, ◌/◌, ◌%◌, List, [], ◌∷◌, ◌++◌, Bool, true, false, cond, ◌&&◌, nat_lt, nat_le, flat_map}
use Rattle.std.specs.Char.{digit_char}
use Rattle.std.specs.Str.{chars}
use Rattle.json.specs.Token.{Token}
use Rattle.json.specs.Print.{escape_letter, token_text}
use Rattle.serde_json.specs.Data.{Data, null, boolean, number, string, array, object, Items, no_items, item, Members, no_members, member}
use Rattle.serde_json.specs.Written.{number_text, comma_if}

-- `\u` and the four lower case hexadecimal digits of a code unit
unfoldable pub unicode_escape : ℕ → List ℕ
unicode_escape unit = 92 ∷ 117 ∷ digit_char (unit / 4096) ∷ digit_char (unit / 256 % 16) ∷ digit_char (unit / 16 % 16) ∷ digit_char (unit % 16) ∷ []

-- the surrogate pair of a character above U+FFFF
abbrev pub high_surrogate : ℕ → ℕ
high_surrogate c = 0xd800 + (c - 0x10000) / 1024

abbrev pub low_surrogate : ℕ → ℕ
low_surrogate c = 0xdc00 + (c - 0x10000) % 1024

-- what is in a string for a character: its short escape where it has one, itself from 0x20 to
-- 0x7e, else the escapes of its one or two code units
unfoldable pub escaped_char : ℕ → List ℕ
escaped_char c =
    cond (nat_lt 0 (escape_letter c)) (92 ∷ escape_letter c ∷ [])
    (cond (nat_le 32 c && nat_lt c 127) (c ∷ []) (cond (nat_lt c 0x10000) (unicode_escape c) (unicode_escape (high_surrogate c) ++ unicode_escape (low_surrogate c))))

-- a string between its quotation marks
abbrev pub quoted_text : List ℕ → List ℕ
quoted_text s = 34 ∷ (flat_map escaped_char (chars s) ++ 34 ∷ [])

abbrev mutual
  -- the text of a value that has no float; members are in the order of their keys' bytes
  pub json_of : Data → List ℕ
  json_of null = token_text Token.null
  json_of (boolean b) = token_text (Token.boolean b)
  json_of (number n) = number_text n
  json_of (string s) = quoted_text s
  json_of (array ds) = 91 ∷ items_json false ds
  json_of (object ms) = 123 ∷ members_json false ms

  -- items with a comma between them, and the closing bracket
  pub items_json : Bool → Items → List ℕ
  items_json later no_items = 93 ∷ []
  items_json later (item d ds) = comma_if later ++ (json_of d ++ items_json true ds)

  -- members with a comma between them, and the closing brace
  pub members_json : Bool → Members → List ℕ
  members_json later no_members = 125 ∷ []
  members_json later (member k d ms) = comma_if later ++ (quoted_text k ++ 58 ∷ (json_of d ++ members_json true ms))

-- a byte that is a character of ASCII which can be seen, or a space
abbrev pub IsPrintable : ℕ → Type 0
IsPrintable x = (32 ≤ x) × (x < 127)
