-- What signing is good for.
use Rattle.std.specs.Prelude.{◌≡◌, ◌↔◌, ℕ, ◌^◌, ◌<◌, List, [], Contains, Option, Some}
use Rattle.serde_json.specs.Data.{Data}
use Rattle.ascii_json.specs.Profile.{IsProfile}
use Rattle.ascii_json.specs.Representable.{IsRepresentable}
use Rattle.crypto_text.specs.Rfc4648.{IsBytes, base64url}
use Rattle.signing_core.specs.Decoding.{bytes_of, signed_value}
use Rattle.signing_core.specs.Signature.{IsAllowed, IsSigned, IsTimestamped, age_at, signed_text, timed_value}
use Rattle.signing_core.specs.SignedCookie.{cookie_prefix, cookie_text, salt_with_name}
use Rattle.signing_core.specs.SignedJson.{IsDumped, dumped_text}
use Rattle.signing_core.specs.TimedText.{IsCurrent}

-- a signed text is the text of one value, whoever signed it
abbrev pub SignedTextTellsValue : Type 0
SignedTextTellsValue = (text first second prefix salt other_prefix other_salt : List ℕ) (keys other_keys : List (List ℕ))
    → IsSigned text first prefix salt keys → IsSigned text second other_prefix other_salt other_keys → first ≡ second

-- so is a signed text with a time, and it has one moment
abbrev pub TimestampedTextTellsValue : Type 0
TimestampedTextTellsValue = (text first second prefix salt other_prefix other_salt : List ℕ) (first_time second_time : ℕ) (keys other_keys : List (List ℕ))
    → IsTimestamped text first first_time prefix salt keys → IsTimestamped text second second_time other_prefix other_salt other_keys
    → (first ≡ second) × (first_time ≡ second_time)

-- what was signed under a key is signed while the key is listed
abbrev pub SignedWhileListed : Type 0
SignedWhileListed = (value prefix salt key : List ℕ) (keys : List (List ℕ)) → Contains keys key → IsSigned (signed_text value prefix salt key) value prefix salt keys

-- what was signed with a time under a key has that time while the key is listed
abbrev pub TimestampedWhileListed : Type 0
TimestampedWhileListed = (value prefix salt key : List ℕ) (time : ℕ) (keys : List (List ℕ)) → time < 2 ^ 64 → Contains keys key
    → IsTimestamped (signed_text (timed_value value time) prefix salt key) value time prefix salt keys

-- a dumped text is the text of one value and one moment, whoever signed it
abbrev pub DumpedTextTellsValue : Type 0
DumpedTextTellsValue = (text salt other_salt : List ℕ) (first second : Data) (first_time second_time : ℕ) (keys other_keys : List (List ℕ))
    → IsDumped text first first_time salt keys → IsDumped text second second_time other_salt other_keys → (first ≡ second) × (first_time ≡ second_time)

-- what was dumped under a key is that value while the key is listed
abbrev pub DumpedWhileListed : Type 0
DumpedWhileListed = (d : Data) (salt key : List ℕ) (time : ℕ) (keys : List (List ℕ)) → IsRepresentable d → IsProfile d → time < 2 ^ 64 → Contains keys key
    → IsDumped (dumped_text d salt key time) d time salt keys

-- a cookie's value that was signed under a key is that value while the key is listed and its age allowed
abbrev pub CookieWhileListed : Type 0
CookieWhileListed = (name value salt key : List ℕ) (time now : ℕ) (max_age : Option ℕ) (keys : List (List ℕ)) → time < 2 ^ 64 → Contains keys key → IsAllowed max_age (age_at time now)
    → IsCurrent (cookie_text name value salt key time) value cookie_prefix (salt_with_name name salt) keys now max_age

-- what a text is taken apart into is the value and the moment that were signed together under one of the keys
abbrev pub SignedValueIsTimestamped : Type 0
SignedValueIsTimestamped = (text salt value : List ℕ) (time : ℕ) (keys : List (List ℕ))
    → (signed_value text salt keys ≡ Some (value, time)) ↔ IsTimestamped text value time [] salt keys

-- and the bytes of a value are those whose base64url it is
abbrev pub BytesAreEncoded : Type 0
BytesAreEncoded = (text bytes : List ℕ) → (bytes_of text ≡ Some bytes) ↔ (IsBytes bytes × (text ≡ base64url bytes))
