-- Numerals in base 62 and base 36, after Django's `baseconv.base62` and `int_to_base36`, and in decimal, after Rust's `Display`.
use Rattle.std.specs.Prelude.{◌≡◌, ℕ, ◌+◌, ◌*◌, ◌^◌, ◌<◌, ◌==◌, ◌&&◌, nat_lt, if◌then◌else◌, Option, None, Some, List, [], ◌∷◌, All, Contains, bytes_eq, codes, decimal, length, map, option_and_then, slice_index}
use Rattle.std.specs.Int.Digits.{digits_of}
use Rattle.std.specs.List.{position_or_len}
use Rattle.std.specs.Str.Parse.{digits_value}
use Rattle.crypto_text.specs.declared.numeral.Base.{Base}
use Rattle.crypto_text.specs.declared.numeral.Base.TheVariants.{Base36, Base62}

-- the digits of base 62 in the order of their values
unfoldable pub base62_digits : List ℕ
base62_digits = codes "0123456789ABCDEFGHIJKLMNOPQRSTUVWXYZabcdefghijklmnopqrstuvwxyz"

-- the digits of base 36 in the order of their values
unfoldable pub base36_digits : List ℕ
base36_digits = codes "0123456789abcdefghijklmnopqrstuvwxyz"

-- a digit's value is its index among the digits; for a character that is none it is their number
unfoldable pub digit_value : List ℕ → ℕ → ℕ
digit_value digits c = position_or_len (λ digit. digit == c) digits

-- every character of the text is a digit
abbrev pub AreDigits : List ℕ → List ℕ → Type 0
AreDigits digits text = All (Contains digits) text

-- the sum of each digit's value times the base to the number of digits to its right
unfoldable pub value_of : List ℕ → List ℕ → ℕ
value_of digits [] = 0
value_of digits (c ∷ rest) = digit_value digits c * length digits ^ length rest + value_of digits rest

-- the text is a numeral of n; it may begin with zeros
pub record IsNumeral (digits text : List ℕ) (n : ℕ) : Type 0 where
  pub nonempty : 0 < length text
  pub only_digits : AreDigits digits text
  pub value : value_of digits text ≡ n

-- the numeral of n without leading zero; that of zero is the digit zero
unfoldable pub numeral_of : List ℕ → ℕ → List ℕ
numeral_of digits n = if n == 0 then slice_index digits 0 ∷ [] else map (slice_index digits) (digits_of (length digits) n)

-- the digits of a base
abbrev pub digits_in : Base → List ℕ
digits_in Base36 = base36_digits
digits_in Base62 = base62_digits

-- the number below 2^64 that the text is in decimal, without a sign or a leading zero
unfoldable pub decimal_of : List ℕ → Option ℕ
decimal_of text = let n = digits_value 10 text in if nat_lt n (2 ^ 64) && bytes_eq text (decimal n) then Some n else None

-- the number from 1 to 2^64 - 1 that the text is in decimal, without a sign or a leading zero
unfoldable pub positive_of : List ℕ → Option ℕ
positive_of text = option_and_then (λ n. if n == 0 then None else Some n) (decimal_of text)
