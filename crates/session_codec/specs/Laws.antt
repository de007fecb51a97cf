-- What session maps and texts are good for.
use Rattle.std.specs.Prelude.{◌≡◌, ◌≢◌, ◌↔◌, ℕ, ◌^◌, ◌<◌, ◌≤◌, List, [], Contains, None, Some, Ok, Err, decimal}
use Rattle.serde_json.specs.Data.{Members, object}
use Rattle.serde_json.specs.Find.{get_member}
use Rattle.ascii_json.specs.Profile.{Reads}
use Rattle.crypto_text.specs.Numeral.{positive_of}
use Rattle.signing_core.specs.Keys.{key_at}
use Rattle.signing_core.specs.Signature.{IsAllowed, IsExpired, age_at}
use Rattle.session_codec.specs.declared.session_text.DecodeFault.TheVariants.{Corrupt, Expired}
use Rattle.session_codec.specs.declared.session_text.SessionKind.{SessionKind}
use Rattle.session_codec.specs.declared.session_text.SessionKind.TheVariants.{Stored}
use Rattle.session_codec.specs.SessionMap.{IsSession, auth_members, auth_of, without}
use Rattle.session_codec.specs.SessionText.{Encodes, decoded, map_of_payload, max_age_of, payload_of, salt_of, text_of}

-- a text is decoded to a map exactly where it encodes it and isn't too old
abbrev pub DecodedIsEncoded : Type 0
DecodedIsEncoded = (kind : SessionKind) (keys : List (List ℕ)) (now : ℕ) (text : List ℕ) (ms : Members)
    → (decoded kind keys now text ≡ Ok ms) ↔ ((time : ℕ) × Encodes kind keys text ms time × IsAllowed (max_age_of kind) (age_at time now))

-- a text has expired exactly where something was signed so long ago, and that is too long
abbrev pub DecodedExpires : Type 0
DecodedExpires = (kind : SessionKind) (keys : List (List ℕ)) (now : ℕ) (text : List ℕ) (age : ℕ)
    → (decoded kind keys now text ≡ Err (Expired age)) ↔ IsExpired text [] (salt_of kind) keys now (max_age_of kind) age

-- a text is corrupt exactly where it is neither
abbrev pub DecodedIsCorrupt : Type 0
DecodedIsCorrupt = (kind : SessionKind) (keys : List (List ℕ)) (now : ℕ) (text : List ℕ)
    → (decoded kind keys now text ≡ Err Corrupt)
    ↔ (((ms : Members) (time : ℕ) → Encodes kind keys text ms time → ¬ IsAllowed (max_age_of kind) (age_at time now))
    × ((age : ℕ) → ¬ IsExpired text [] (salt_of kind) keys now (max_age_of kind) age))

-- what was encoded under some keys is decoded while their first key is listed and the age allowed
abbrev pub EncodedDecodes : Type 0
EncodedDecodes = (kind : SessionKind) (ms : Members) (signers keys : List (List ℕ)) (time now : ℕ)
    → IsSession ms → time < 2 ^ 64 → Contains keys (key_at signers 0) → IsAllowed (max_age_of kind) (age_at time now)
    → decoded kind keys now (text_of kind ms signers time) ≡ Ok ms

-- so what is stored is decoded while that key is listed, however old it is
abbrev pub StoredDecodes : Type 0
StoredDecodes = (ms : Members) (signers keys : List (List ℕ)) (time now : ℕ) → IsSession ms → time < 2 ^ 64 → Contains keys (key_at signers 0)
    → decoded Stored keys now (text_of Stored ms signers time) ≡ Ok ms

-- a text is decoded to one map, whatever the kinds, the keys and the moments
abbrev pub TextTellsMap : Type 0
TextTellsMap = (kind other : SessionKind) (keys others : List (List ℕ)) (now later : ℕ) (text : List ℕ) (first second : Members)
    → decoded kind keys now text ≡ Ok first → decoded other others later text ≡ Ok second → first ≡ second

-- a text is the JSON of this map exactly where it is JSON text of its object
abbrev pub PayloadIsRead : Type 0
PayloadIsRead = (text : List ℕ) (ms : Members) → (map_of_payload text ≡ Some ms) ↔ Reads text (object ms)

-- what was written is read back
abbrev pub PayloadReadsBack : Type 0
PayloadReadsBack = (ms : Members) → IsSession ms → map_of_payload (payload_of ms) ≡ Some ms

-- so a text is the payload of one map at most
abbrev pub PayloadTellsMap : Type 0
PayloadTellsMap = (first second : Members) → IsSession first → IsSession second → payload_of first ≡ payload_of second → first ≡ second

-- a user's id is read where the text is its decimal digits
abbrev pub UserIdIsDecimal : Type 0
UserIdIsDecimal = (text : List ℕ) (user : ℕ) → (positive_of text ≡ Some user) ↔ ((text ≡ decimal user) × (1 ≤ user) × (user < 2 ^ 64))

-- the map of a login says this login
abbrev pub AuthMembersTell : Type 0
AuthMembersTell = (user : ℕ) (backend hash : List ℕ) → 1 ≤ user → user < 2 ^ 64
    → auth_of (auth_members user backend hash) ≡ Some (record { user = user; backend = backend; hash = hash })

-- a name that was taken away is gone
abbrev pub TakenAwayIsGone : Type 0
TakenAwayIsGone = (name : List ℕ) (ms : Members) → IsSession ms → get_member name (without name ms) ≡ None

-- and the others keep their values
abbrev pub OthersStay : Type 0
OthersStay = (name other : List ℕ) (ms : Members) → other ≢ name → get_member other (without name ms) ≡ get_member other ms
