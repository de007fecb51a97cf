-- What reset tokens are good for.
use Rattle.std.specs.Prelude.{◌≡◌, ◌↔◌, ℕ, ◌-◌, ◌^◌, ◌<◌, ◌≤◌, List, Contains, IfSome}
use Rattle.pass_hashers.specs.PasswordText.{IsPasswordText}
use Rattle.crypto_text.specs.Moment.{IsMoment}
use Rattle.reset_tokens.specs.declared.reset_token.ResetVerdict.{ResetVerdict}
use Rattle.reset_tokens.specs.declared.reset_token.ResetVerdict.TheVariants.{Expired, Mismatch, Shape, Valid}
use Rattle.reset_tokens.specs.ResetToken.{HasShape, IsExpired, IsMismatch, IsValid, ResetRow, number_at, reset_text, token_text}
use Rattle.reset_tokens.specs.TokenVerdict.{token_verdict}
use Rattle.reset_tokens.specs.UserIdText.{IsUidText, IsUserId, uid_text}

-- a row as it is in the tables: an id of 64 bits, a password text, and a moment or nothing as the last login
pub record IsRow (row : ResetRow) : Type 0 where
  pub id : row.id < 2 ^ 64
  pub password : IsPasswordText row.password
  pub last_login : IfSome row.last_login IsMoment

-- at one number of at least eight digits, rows with one reset text have the same id, password text, last login and address
abbrev pub ResetTextTells : Type 0
ResetTextTells = (number : ℕ) (first second : ResetRow) → 10000000 ≤ number → number < 2 ^ 64 → IsRow first → IsRow second
    → reset_text first number ≡ reset_text second number
    → (first.id ≡ second.id) × (first.password ≡ second.password) × (first.last_login ≡ second.last_login) × (first.email ≡ second.email)

-- a token that was made for a row under a key is valid for that row while the key is listed and the age allowed
abbrev pub MadeTokenIsValid : Type 0
MadeTokenIsValid = (row : ResetRow) (key : List ℕ) (keys : List (List ℕ)) (made now : ℕ) → made < 2 ^ 64 → Contains keys key → now - made ≤ 259200
    → IsValid (token_text row (number_at made) key) row keys now

-- a verdict says of a token just what the relations say
pub record IsExactVerdict (verdict : ResetVerdict) (row : ResetRow) (keys : List (List ℕ)) (token : List ℕ) (now : ℕ) : Type 0 where
  pub valid : (verdict ≡ Valid) ↔ IsValid token row keys now
  pub shape : (verdict ≡ Shape) ↔ (¬ HasShape token)
  pub mismatch : (verdict ≡ Mismatch) ↔ IsMismatch token row keys
  pub expired : (age : ℕ) → (verdict ≡ Expired age) ↔ IsExpired token row keys now age

-- the verdict is exact for every row, keys, token and moment
abbrev pub VerdictIsExact : Type 0
VerdictIsExact = (row : ResetRow) (keys : List (List ℕ)) (token : List ℕ) (now : ℕ) → IsExactVerdict (token_verdict row keys token now) row keys token now

-- the text of an id is the text of that id and of no other
abbrev pub UidReadsBack : Type 0
UidReadsBack = (id other : ℕ) → IsUserId id → IsUidText (uid_text id) other ↔ (other ≡ id)
