-- Session maps, and the names that Django 4.2's `django.contrib.auth` and `SessionBase` put into them.
use Rattle.std.specs.Prelude.{ℕ, ◌==◌, min, List, [], false, true, if◌then◌else◌, Option, None, Some, codes, decimal, option_and_then, option_map, unwrap_or}
use Rattle.std.specs.Ordering.{match_ordering, nat_cmp}
use Rattle.std.specs.Cmp.Lexicographic.{slice_cmp}
use Rattle.crypto_text.specs.Numeral.{positive_of}
use Rattle.serde_json.specs.Data.{Data, string, object, Members, no_members, member}
use Rattle.serde_json.specs.Find.{as_number, as_str, as_u64, get_member}
use Rattle.ascii_json.specs.Profile.{FitsWithin, IsProfile}
use Rattle.ascii_json.specs.Representable.{IsRepresentable}
use Rattle.session_codec.specs.declared.expiry.Expiry.{Expiry}

-- a value that a session holds: no float, nested at most 99 deep, so that the map is nested at most 100 deep
abbrev pub IsSessionValue : Data → Type 0
IsSessionValue d = FitsWithin 99 d × IsRepresentable d

-- a map that a session has
abbrev pub IsSession : Members → Type 0
IsSession ms = IsProfile (object ms) × IsRepresentable (object ms)

-- the members but for the one of a name
abbrev pub without : List ℕ → Members → Members
without k no_members = no_members
without k (member l d ms) = match_ordering (slice_cmp nat_cmp k l) (member l d (without k ms)) ms (member l d (without k ms))

-- the text under a name
abbrev pub text_at : List ℕ → Members → Option (List ℕ)
text_at name ms = option_and_then as_str (get_member name ms)

-- ---- the names of a login

unfoldable pub user_id_name : List ℕ
user_id_name = codes "_auth_user_id"

unfoldable pub backend_name : List ℕ
backend_name = codes "_auth_user_backend"

unfoldable pub hash_name : List ℕ
hash_name = codes "_auth_user_hash"

-- who is logged in, by which backend, and the hash that is compared with that of the password
pub record SessionAuth : Type 0 where
  pub user : ℕ
  pub backend : List ℕ
  pub hash : List ℕ

-- the login of a map: none without a user's id or without a backend; a hash that is missing is empty
unfoldable pub auth_of : Members → Option SessionAuth
auth_of ms =
    option_and_then (λ user. option_map (λ backend. record { user = user; backend = backend; hash = unwrap_or (text_at hash_name ms) [] }) (text_at backend_name ms))
    (option_and_then positive_of (text_at user_id_name ms))

-- the map of a login and nothing else, its names in the order of their bytes
abbrev pub auth_members : ℕ → List ℕ → List ℕ → Members
auth_members user backend hash = member backend_name (string backend) (member hash_name (string hash) (member user_id_name (string (decimal user)) no_members))

-- ---- how long a session lasts

unfoldable pub expiry_name : List ℕ
expiry_name = codes "_session_expiry"

-- two weeks, where the map doesn't say how many seconds: Django's SESSION_COOKIE_AGE
abbrev pub usual_seconds : ℕ
usual_seconds = 1209600

-- a hundred years of 365 days
abbrev pub most_seconds : ℕ
most_seconds = 3153600000

-- by the whole number under the name, where there is one: so many seconds; 0 is until the browser is closed
abbrev pub expiry_from : Option ℕ → Expiry
expiry_from None = record { seconds = usual_seconds; at_close = false }
expiry_from (Some n) = if n == 0 then record { seconds = usual_seconds; at_close = true } else record { seconds = min n most_seconds; at_close = false }

-- how long the session of a map lasts
abbrev pub expiry_of : Members → Expiry
expiry_of ms = expiry_from (option_and_then as_u64 (option_and_then as_number (get_member expiry_name ms)))
