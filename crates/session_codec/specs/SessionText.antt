-- Session texts, as Django 4.2's `SessionBase.encode` and its `signed_cookies` backend write them: the map
-- as signed JSON, without compression.
use Rattle.std.specs.Prelude.{ℕ, List, Option, None, Some, Result, codes}
use Rattle.serde_json.specs.Data.{Members, object}
use Rattle.ascii_json.specs.AsciiJson.{json_of}
use Rattle.signing_core.specs.Keys.{key_at}
use Rattle.signing_core.specs.SignedJson.{IsDumped, dumped_text}
use Rattle.signing_core.specs.Decoding.{signed_value}
use Rattle.session_codec.specs.Decoding.{members_of_json, outcome}
use Rattle.session_codec.specs.declared.session_text.DecodeFault.{DecodeFault}
use Rattle.session_codec.specs.declared.session_text.SessionKind.{SessionKind}
use Rattle.session_codec.specs.declared.session_text.SessionKind.TheVariants.{Cookie, Stored}

-- the salt of sessions that a store keeps
unfoldable pub stored_salt : List ℕ
stored_salt = codes "django.contrib.sessions.SessionStore"

-- the salt of sessions that a cookie carries
unfoldable pub cookie_salt : List ℕ
cookie_salt = codes "django.contrib.sessions.backends.signed_cookies"

abbrev pub salt_of : SessionKind → List ℕ
salt_of Stored = stored_salt
salt_of Cookie = cookie_salt

-- the greatest age in seconds: a store forgets by itself, a cookie's text lasts two weeks
abbrev pub max_age_of : SessionKind → Option ℕ
max_age_of Stored = None
max_age_of Cookie = Some 1209600

-- what encoding a map gives: it is signed under the first key
abbrev pub text_of : SessionKind → Members → List (List ℕ) → ℕ → List ℕ
text_of kind ms keys now = dumped_text (object ms) (salt_of kind) (key_at keys 0) now

-- the text is this map, signed at this moment under one of the keys
abbrev pub Encodes : SessionKind → List (List ℕ) → List ℕ → Members → ℕ → Type 0
Encodes kind keys text ms time = IsDumped text (object ms) time (salt_of kind) keys

-- the map as JSON, not signed
abbrev pub payload_of : Members → List ℕ
payload_of ms = json_of (object ms)

-- what decoding a text comes to, where there is memory: the map that it encodes, unless it is too old or encodes none
unfoldable pub decoded : SessionKind → List (List ℕ) → ℕ → List ℕ → Result Members DecodeFault
decoded kind keys now text = outcome (max_age_of kind) now (signed_value text (salt_of kind) keys)

-- the map whose JSON the text is
unfoldable pub map_of_payload : List ℕ → Option Members
map_of_payload text = members_of_json text
