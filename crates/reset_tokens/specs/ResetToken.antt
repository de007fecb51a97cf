-- Password reset tokens, as Django 4.2's `PasswordResetTokenGenerator` makes and checks them. The reset text with its
-- form of the last login, and the choice of hex digits, are meant after Django's.
use Rattle.std.specs.Prelude.{◌≡◌, ℕ, ◌-◌, ◌*◌, ◌^◌, ◌<◌, ◌≤◌, List, [], ◌∷◌, ◌++◌, Contains, Option, Some, None, codes, length, map, slice_index}
use Rattle.std.specs.Fmt.{decimal}
use Rattle.std.specs.List.{range_with_len}
use Rattle.crypto_text.specs.Hexadecimal.{hex_text}
use Rattle.crypto_text.specs.Numeral.{IsNumeral, base36_digits, numeral_of}
use Rattle.crypto_text.specs.SaltedHmac.{salted_hmac}
use Rattle.reset_tokens.specs.Moment.{moment_text}
use Rattle.reset_tokens.specs.declared.reset_text.ResetUser.{ResetUser}

-- what a token depends on of an account's row: the id, the password text, the last login, and the address
pub record ResetRow : Type 0 where
  pub id : ℕ
  pub password : List ℕ
  pub last_login : Option ℕ
  pub email : List ℕ

-- the row of what a caller gives
abbrev pub row_of : ResetUser → ResetRow
row_of user = record { id = user.id; password = user.password.now; last_login = user.last_login; email = user.email.now }

-- the last login in UTC, or nothing
abbrev pub login_text : Option ℕ → List ℕ
login_text None = []
login_text (Some moment) = moment_text moment

-- what the MAC is of: the decimal id, the password text, the last login, the decimal number and the address, put together
unfoldable pub reset_text : ResetRow → ℕ → List ℕ
reset_text row number = decimal row.id ++ row.password ++ login_text row.last_login ++ decimal number ++ row.email

-- the salt of the MAC: Django's `key_salt`
unfoldable pub reset_salt : List ℕ
reset_salt = codes "django.contrib.auth.tokens.PasswordResetTokenGenerator"

-- the digits at the indices 0, 2, 4 to 62
unfoldable pub every_second : List ℕ → List ℕ
every_second digits = map (λ place. slice_index digits (2 * place)) (range_with_len 0 32)

-- every second hex digit of the salted MAC of a text under a key
abbrev pub mac_of_text : List ℕ → List ℕ → List ℕ
mac_of_text text key = every_second (hex_text (salted_hmac reset_salt text key))

-- the MAC of a row at a number under a key
abbrev pub reset_mac : ResetRow → ℕ → List ℕ → List ℕ
reset_mac row number key = mac_of_text (reset_text row number) key

-- `-`, between the number and the MAC
abbrev pub dash : ℕ
dash = 45

-- the token of a row at a number under a key: the number in base 36, a dash and the MAC
abbrev pub token_text : ResetRow → ℕ → List ℕ → List ℕ
token_text row number key = numeral_of base36_digits number ++ dash ∷ reset_mac row number key

-- the number of a moment: the seconds since 2001-01-01 00:00:00 UTC
abbrev pub number_at : ℕ → ℕ
number_at moment = moment - 978307200

-- the seconds since the moment of a number; none where it is still to come
abbrev pub age_at : ℕ → ℕ → ℕ
age_at number now = number_at now - number

-- the token is a base 36 numeral of this number, of at most 13 digits and below 2^64, and another part, with the one dash between
pub record HasNumber (token : List ℕ) (number : ℕ) : Type 0 where
  pub digits : List ℕ
  pub mark : List ℕ
  pub whole : token ≡ digits ++ dash ∷ mark
  pub one_dash : ¬ Contains mark dash
  pub numeral : IsNumeral base36_digits digits number
  pub short : length digits ≤ 13
  pub fits : number < 2 ^ 64

-- the token has a number
abbrev pub HasShape : List ℕ → Type 0
HasShape token = (number : ℕ) × HasNumber token number

-- the token is the one of the row at this number under a listed key
pub record IsMade (token : List ℕ) (row : ResetRow) (number : ℕ) (keys : List (List ℕ)) : Type 0 where
  pub key : List ℕ
  pub listed : Contains keys key
  pub fits : number < 2 ^ 64
  pub token_is : token ≡ token_text row number key

-- the token was made for the row at most 259,200 seconds ago: Django's PASSWORD_RESET_TIMEOUT
pub record IsValid (token : List ℕ) (row : ResetRow) (keys : List (List ℕ)) (now : ℕ) : Type 0 where
  pub number : ℕ
  pub made : IsMade token row number keys
  pub allowed : age_at number now ≤ 259200

-- the token is in shape, and no listed key makes it for the row
pub record IsMismatch (token : List ℕ) (row : ResetRow) (keys : List (List ℕ)) : Type 0 where
  pub shape : HasShape token
  pub unmade : (number : ℕ) → ¬ IsMade token row number keys

-- the token was made for the row, and it has this age, which is not allowed
pub record IsExpired (token : List ℕ) (row : ResetRow) (keys : List (List ℕ)) (now age : ℕ) : Type 0 where
  pub number : ℕ
  pub made : IsMade token row number keys
  pub age_is : age ≡ age_at number now
  pub beyond : 259200 < age
