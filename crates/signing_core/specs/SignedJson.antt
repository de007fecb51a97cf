-- Values as signed JSON, as Django 4.2's `signing.dumps` writes them without compression.
use Rattle.std.specs.Prelude.{◌≡◌, ℕ, List, [], Option, slice_index}
use Rattle.serde_json.specs.Data.{Data}
use Rattle.ascii_json.specs.AsciiJson.{json_of}
use Rattle.ascii_json.specs.Profile.{Reads}
use Rattle.crypto_text.specs.Rfc4648.{IsBase64url, IsBytes, base64url}
use Rattle.signing_core.specs.Signature.{IsTimestamped, signed_text, timed_value}
use Rattle.signing_core.specs.TimedText.{IsCurrent}

-- what is signed: the value's JSON text in base64url
abbrev pub encoded_json : Data → List ℕ
encoded_json d = base64url (json_of d)

-- the value's text, signed under a key with the time
abbrev pub dumped_text : Data → List ℕ → List ℕ → ℕ → List ℕ
dumped_text d salt key time = signed_text (timed_value (encoded_json d) time) [] salt key

-- a dot in front is Django's mark of compressed JSON
abbrev pub IsCompressed : List ℕ → Type 0
IsCompressed payload = slice_index payload 0 ≡ 46

-- what was signed is the base64url of these bytes, and no compressed JSON
pub record IsPayloadOf (payload json : List ℕ) : Type 0 where
  pub uncompressed : ¬ IsCompressed payload
  pub bytes : IsBytes json
  pub encoded : payload ≡ base64url json

-- what was signed is JSON text of this value, in base64url
pub record SaysValue (payload : List ℕ) (d : Data) : Type 0 where
  pub json : List ℕ
  pub payload_of_json : IsPayloadOf payload json
  pub reads : Reads json d

-- the text is this value as JSON, signed at this moment under one of the keys
pub record IsDumped (text : List ℕ) (d : Data) (time : ℕ) (salt : List ℕ) (keys : List (List ℕ)) : Type 0 where
  pub payload : List ℕ
  pub timestamped : IsTimestamped text payload time [] salt keys
  pub says : SaysValue payload d

-- what was signed is the base64url of bytes that are JSON text of no profile value
pub record SaysNoValue (payload : List ℕ) : Type 0 where
  pub json : List ℕ
  pub payload_of_json : IsPayloadOf payload json
  pub unread : (d : Data) → ¬ Reads json d

-- ---- what a text is refused for, where its signature and its age are not at fault

-- it holds compressed JSON
pub record SignsCompressed (text salt : List ℕ) (keys : List (List ℕ)) (now : ℕ) (max_age : Option ℕ) : Type 0 where
  pub payload : List ℕ
  pub current : IsCurrent text payload [] salt keys now max_age
  pub compressed : IsCompressed payload

-- it holds what isn't base64url
pub record SignsNoBase64 (text salt : List ℕ) (keys : List (List ℕ)) (now : ℕ) (max_age : Option ℕ) : Type 0 where
  pub payload : List ℕ
  pub current : IsCurrent text payload [] salt keys now max_age
  pub uncompressed : ¬ IsCompressed payload
  pub unread : ¬ IsBase64url payload

-- it holds bytes that are JSON text of no profile value
pub record SignsNoJson (text salt : List ℕ) (keys : List (List ℕ)) (now : ℕ) (max_age : Option ℕ) : Type 0 where
  pub payload : List ℕ
  pub current : IsCurrent text payload [] salt keys now max_age
  pub says : SaysNoValue payload
