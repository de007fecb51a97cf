-- Hexadecimal text in lower case, as digests are written: RFC 4648, section 8, but for the case.
use Rattle.std.specs.Prelude.{ℕ, ◌/◌, ◌%◌, List, [], ◌∷◌, codes, slice_index}

-- the sixteen digits in the order of their values
unfoldable pub hex_digits : List ℕ
hex_digits = codes "0123456789abcdef"

-- each byte as two digits, that of its four high bits first
unfoldable pub hex_text : List ℕ → List ℕ
hex_text [] = []
hex_text (byte ∷ rest) = slice_index hex_digits (byte / 16) ∷ slice_index hex_digits (byte % 16) ∷ hex_text rest
