-- What setting an entry does to a session's map.
use Rattle.std.proofs.Common.{◌≡◌, ℕ, ◌^◌, ◌<◌, bytes_eq, nat_lt, codes, List, Option, Some, None, length, refl, arith}
use Rattle.std.proofs.Math.Utf8.{encode}
use Rattle.std.proofs.lemmas.Option.{same_Some}
use Rattle.std.specs.Str.{IsUtf8}
use Rattle.serde_json.specs.Data.{Members, number, put, string, unsigned}
use Rattle.crypto_text.specs.Numeral.{positive_of}
use Rattle.session_codec.specs.SessionMap.{IsSession, IsSessionValue, expiry_name, hash_name}
use Rattle.session_codec.proofs.AuthLemmas.{says_user}
use Rattle.session_codec.proofs.MembersLemmas.{put_session}
use Rattle.auth_backends.specs.declared.session_box.SessionBox.{SessionBox}
use Rattle.account_views.specs.SessionEntries.{seconds_of, with_entry, with_expiry}
use Rattle.account_views.proofs.WalkLemmas.{either}

-- ---- the map stays a session's

text_value : (text : List ℕ) → IsUtf8 text → IsSessionValue (string text)
text_value text utf8 = ((refl, omega arith), utf8)

number_value : (n : ℕ) → n < 2 ^ 64 → IsSessionValue (number (unsigned n))
number_value n below = ((refl, omega arith), below)

expiry_name-text : IsUtf8 expiry_name
unfolding expiry_name encode
expiry_name-text = (expiry_name, (refl, refl))

hash_name-text : IsUtf8 hash_name
unfolding hash_name encode
hash_name-text = (hash_name, (refl, refl))

pub put_text-session : (name text : List ℕ) (map : Members) → IsUtf8 name → IsUtf8 text → IsSession map → IsSession (put name (string text) map)
put_text-session name text map is_name is_text session = put_session name (string text) map is_name (text_value text is_text) session

pub put_hash-session : (hash : List ℕ) (map : Members) → IsUtf8 hash → IsSession map → IsSession (put hash_name (string hash) map)
put_hash-session hash map is_text session = put_text-session hash_name hash map hash_name-text is_text session

-- the number has 64 bits
Fits64 : Option ℕ → Type 0
Fits64 seconds = (n : ℕ) → seconds ≡ Some n → n < 2 ^ 64

zero-fits : Fits64 (Some 0)
unfolding Fits64
zero-fits n is = let same : 0 ≡ n = same_Some 0 n is in omega arith

none-fits : Fits64 None
unfolding Fits64
none-fits n is = absurd (cc is)

positive-fits : (text : List ℕ) → Fits64 (positive_of text)
unfolding Fits64
positive-fits text n is = (says_user text n is).2

seconds_of-fits : (text : List ℕ) → Fits64 (seconds_of text)
unfolding seconds_of
seconds_of-fits text =
    either Fits64 (bytes_eq text (codes "0")) (Some 0) _ zero-fits (either Fits64 (nat_lt 10 (length text)) None (positive_of text) none-fits (positive-fits text))

with_expiry-session : (seconds : Option ℕ) (map : Members) → Fits64 seconds → IsSession map → IsSession (with_expiry seconds map)
unfolding Fits64
with_expiry-session None map fits session = session
with_expiry-session (Some n) map fits session = put_session expiry_name (number (unsigned n)) map expiry_name-text (number_value n (fits n refl)) session

pub with_entry-session : (name value expiry : List ℕ) (session : SessionBox) → IsUtf8 name → IsUtf8 value → IsSession session.map
    → IsSession (with_entry name value expiry session).map
with_entry-session name value expiry session is_name is_value held =
    with_expiry-session (seconds_of expiry) (put name (string value) session.map) (seconds_of-fits expiry) (put_text-session name value session.map is_name is_value held)
