-- Signed texts, as Django 4.2's `Signer` and `TimestampSigner` make and read them.
use Rattle.std.specs.Prelude.{◌≡◌, ℕ, ◌-◌, ◌^◌, ◌<◌, ◌≤◌, List, ◌∷◌, ◌++◌, Contains, IfSome, IsSomeAnd, Option, codes}
use Rattle.crypto_text.specs.Numeral.{IsNumeral, base62_digits, numeral_of}
use Rattle.crypto_text.specs.Rfc4648.{base64url}
use Rattle.crypto_text.specs.SaltedHmac.{salted_hmac}

-- what a signer has
pub record Signing : Type 0 where
  pub keys : List (List ℕ)
  pub prefix : List ℕ
  pub salt : List ℕ

-- the colon before a signature, and before a time
abbrev pub separator : ℕ
separator = 58

-- the MAC text of a value: its salted HMAC under the prefixed key, in base64url
unfoldable pub signature_of : List ℕ → List ℕ → List ℕ → List ℕ → List ℕ
signature_of value prefix salt key = base64url (salted_hmac (salt ++ codes "signer") value (prefix ++ key))

-- the value, a colon and its signature under a key
abbrev pub signed_text : List ℕ → List ℕ → List ℕ → List ℕ → List ℕ
signed_text value prefix salt key = value ++ separator ∷ signature_of value prefix salt key

-- the text is this value, signed under one of the keys
pub record IsSigned (text value prefix salt : List ℕ) (keys : List (List ℕ)) : Type 0 where
  pub key : List ℕ
  pub listed : Contains keys key
  pub text_is : text ≡ signed_text value prefix salt key

-- the value, a colon and a moment in base 62: what is signed together with the time
abbrev pub timed_value : List ℕ → ℕ → List ℕ
timed_value value time = value ++ separator ∷ numeral_of base62_digits time

-- what was signed is this value and this moment; the moment's digits may begin with zeros
pub record IsTimed (rest value : List ℕ) (time : ℕ) : Type 0 where
  pub digits : List ℕ
  pub rest_is : rest ≡ value ++ separator ∷ digits
  pub numeral : IsNumeral base62_digits digits time
  pub fits : time < 2 ^ 64

-- the text is this value, signed at this moment under one of the keys
pub record IsTimestamped (text value : List ℕ) (time : ℕ) (prefix salt : List ℕ) (keys : List (List ℕ)) : Type 0 where
  pub rest : List ℕ
  pub signed : IsSigned text rest prefix salt keys
  pub timed : IsTimed rest value time

-- the seconds since a moment; none where it is still to come
abbrev pub age_at : ℕ → ℕ → ℕ
age_at time now = now - time

-- the age isn't above the limit, where there is one
abbrev pub IsAllowed : Option ℕ → ℕ → Type 0
IsAllowed max_age age = IfSome max_age (λ most. age ≤ most)

-- there is a colon, and no listed key fits
pub record HasBadSignature (text prefix salt : List ℕ) (keys : List (List ℕ)) : Type 0 where
  pub separated : Contains text separator
  pub unsigned : (value : List ℕ) → ¬ IsSigned text value prefix salt keys

-- the text is signed, and what was signed doesn't end in a moment
pub record HasBadTime (text prefix salt : List ℕ) (keys : List (List ℕ)) : Type 0 where
  pub rest : List ℕ
  pub signed : IsSigned text rest prefix salt keys
  pub untimed : (value : List ℕ) (time : ℕ) → ¬ IsTimed rest value time

-- the text is a signed value of this age, which is above the limit
pub record IsExpired (text prefix salt : List ℕ) (keys : List (List ℕ)) (now : ℕ) (max_age : Option ℕ) (age : ℕ) : Type 0 where
  pub value : List ℕ
  pub time : ℕ
  pub timestamped : IsTimestamped text value time prefix salt keys
  pub age_is : age ≡ age_at time now
  pub beyond : IsSomeAnd max_age (λ most. most < age)
