-- What numerals, base64url, cuts, hexadecimal and random texts are good for.
use Rattle.std.specs.Prelude.{◌≡◌, ℕ, ◌*◌, ◌^◌, ◌<◌, ◌≤◌, List, All, Contains, length}
use Rattle.crypto_text.specs.Alphabet.{random_text}
use Rattle.crypto_text.specs.Cut.{IsCutAtFirst, IsCutAtLast}
use Rattle.crypto_text.specs.Hexadecimal.{hex_text}
use Rattle.crypto_text.specs.Numeral.{IsNumeral, numeral_of}
use Rattle.crypto_text.specs.Rfc4648.{IsBytes, base64url, sixes_of, url_safe_letters}

-- the numeral of a number is one of that number
abbrev pub NumeralTellsNumber : List ℕ → Type 0
NumeralTellsNumber digits = (n : ℕ) → IsNumeral digits (numeral_of digits n) n

-- a number of 64 bits has at most so many digits
abbrev pub NumeralIsShort : List ℕ → ℕ → Type 0
NumeralIsShort digits most = (n : ℕ) → n < 2 ^ 64 → length (numeral_of digits n) ≤ most

-- a text is what one list of bytes is written as
abbrev pub Base64urlTellsBytes : Type 0
Base64urlTellsBytes = (first second : List ℕ) → IsBytes first → IsBytes second → base64url first ≡ base64url second → first ≡ second

-- 8 bits a byte are 6 bits a character
abbrev pub Base64urlHasLength : Type 0
Base64urlHasLength = (bytes : List ℕ) → length (base64url bytes) ≡ sixes_of (length bytes)

-- it has only the 64 characters
abbrev pub Base64urlIsPlain : Type 0
Base64urlIsPlain = (bytes : List ℕ) → All (Contains url_safe_letters) (base64url bytes)

-- a text has one pair of parts before and after its first mark
abbrev pub CutAtFirstTellsParts : Type 0
CutAtFirstTellsParts = (mark : ℕ) (text front back other rest : List ℕ) → IsCutAtFirst mark text front back → IsCutAtFirst mark text other rest → (front ≡ other) × (back ≡ rest)

-- and one before and after its last
abbrev pub CutAtLastTellsParts : Type 0
CutAtLastTellsParts = (mark : ℕ) (text front back other rest : List ℕ) → IsCutAtLast mark text front back → IsCutAtLast mark text other rest → (front ≡ other) × (back ≡ rest)

-- a text is what one list of bytes is written as
abbrev pub HexTellsBytes : Type 0
HexTellsBytes = (first second : List ℕ) → IsBytes first → IsBytes second → hex_text first ≡ hex_text second → first ≡ second

-- two digits a byte
abbrev pub HexHasLength : Type 0
HexHasLength = (bytes : List ℕ) → length (hex_text bytes) ≡ 2 * length bytes

-- words of 32 bits pick letters of the alphabet alone
abbrev pub RandomTextIsPlain : List ℕ → Type 0
RandomTextIsPlain letters = (words : List ℕ) → All (λ word. word < 2 ^ 32) words → All (Contains letters) (random_text letters words)
