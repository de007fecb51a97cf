-- What a token is for a row at a moment, as a function, after Django 4.2's `check_token`: the first that holds of out of shape,
-- made by no listed key, too old, and valid.
use Rattle.std.specs.Prelude.{ℕ, ◌^◌, ◌==◌, ◌&&◌, nat_le, nat_lt, not, Bool, if◌then◌else◌, List, Option, Some, None, bytes_eq, length}
use Rattle.std.specs.List.{after_first, before_first, list_all, list_any}
use Rattle.std.specs.Option.{option_map_or}
use Rattle.crypto_text.specs.Numeral.{base36_digits, value_of}
use Rattle.reset_tokens.specs.ResetToken.{ResetRow, age_at, dash, token_text}
use Rattle.reset_tokens.specs.declared.reset_token.ResetVerdict.{ResetVerdict}
use Rattle.reset_tokens.specs.declared.reset_token.ResetVerdict.TheVariants.{Expired, Mismatch, Shape, Valid}

-- the byte is a digit of base 36
abbrev pub is_base36 : ℕ → Bool
is_base36 byte = list_any (λ digit. digit == byte) base36_digits

-- the number below 2^64 that the text is in base 36, of 1 to 13 digits; it may begin with zeros
unfoldable pub base36_of : List ℕ → Option ℕ
base36_of text =
    let n = value_of base36_digits text in
    if nat_lt 0 (length text) && nat_le (length text) 13 && list_all is_base36 text && nat_lt n (2 ^ 64) then Some n else None

-- the byte is the one between the number and the MAC
abbrev pub is_dash : ℕ → Bool
is_dash byte = byte == dash

-- the number of a token in shape: what comes before its one dash
abbrev pub number_in : List ℕ → Option ℕ
number_in token =
    if list_any is_dash token && not (list_any is_dash (after_first is_dash token)) then base36_of (before_first is_dash token) else None

-- a listed key makes the token for the row at the number
abbrev pub is_made : ResetRow → List (List ℕ) → List ℕ → ℕ → Bool
is_made row keys token number = list_any (λ key. bytes_eq token (token_text row number key)) keys

-- what a token is that was made at the number: too old after 259,200 seconds, Django's PASSWORD_RESET_TIMEOUT
abbrev pub verdict_by_age : ℕ → ℕ → ResetVerdict
verdict_by_age number now = if nat_lt 259200 (age_at number now) then Expired (age_at number now) else Valid

-- what a token with the number is
abbrev pub verdict_at : ResetRow → List (List ℕ) → List ℕ → ℕ → ℕ → ResetVerdict
verdict_at row keys token now number = if is_made row keys token number then verdict_by_age number now else Mismatch

-- what a token is for a row under the keys at a moment
unfoldable pub token_verdict : ResetRow → List (List ℕ) → List ℕ → ℕ → ResetVerdict
token_verdict row keys token now = option_map_or (verdict_at row keys token now) (number_in token) Shape
