-- Passwords that are too weak, after Django 4.2's validators of passwords.
use Rattle.std.specs.Prelude.{◌<◌, ℕ, List, All, Contains, length, map}
use Rattle.std.specs.Char.{to_ascii_lowercase}
use Rattle.std.specs.Int.{IsInRange}
use Rattle.std.specs.Str.{chars}
use Rattle.crypto_text.specs.WhiteSpace.{trimmed}

-- fewer than 8 characters
abbrev pub IsTooShort : List ℕ → Type 0
IsTooShort password = length (chars password) < 8

-- every character is one of 0 to 9
abbrev pub IsAllDigits : List ℕ → Type 0
IsAllDigits password = All (IsInRange 48 57) password

-- what is looked up in the list of common passwords: ASCII lower case, trimmed of ASCII white space
unfoldable pub plain_form : List ℕ → List ℕ
plain_form password = map to_ascii_lowercase (trimmed password)

-- the list has the password
abbrev pub IsCommon : List ℕ → List (List ℕ) → Type 0
IsCommon password common = Contains common (plain_form password)
