-- Who a session cookie speaks for: Django's session middleware and `get_user`. The order of the lines is this project's own.
use Rattle.std.specs.Prelude.{◌≡◌, ◌≢◌, ◌<◌, ◌≤◌, ℕ, List, [], ◌∷◌, Bool, true, Option, Some, None, Result, Ok, Err, ⊤, Contains, bytes_eq, codes, if◌then◌else◌, length, nat_lt, position}
use Rattle.crypto_text.specs.Hexadecimal.{hex_text}
use Rattle.crypto_text.specs.SaltedHmac.{salted_hmac}
use Rattle.serde_json.specs.Data.{Members}
use Rattle.signing_core.specs.Keys.{key_at}
use Rattle.session_codec.specs.SessionMap.{SessionAuth, auth_of}
use Rattle.session_codec.specs.SessionText.{Encodes, decoded}
use Rattle.session_codec.specs.declared.auth_part.AuthPart.{AuthPart}
use Rattle.session_codec.specs.declared.session_text.DecodeFault.{DecodeFault}
use Rattle.session_codec.specs.declared.session_text.SessionKind.TheVariants.{Stored}
use Rattle.ledger_rows.specs.Backends.{path_of}
use Rattle.ledger_rows.specs.State.{State, rows_of}
use Rattle.ledger_rows.specs.Tables.{session_of, user_of}
use Rattle.ledger_rows.specs.declared.rows.Backend.{Backend}
use Rattle.ledger_rows.specs.declared.rows.Backend.TheVariants.{Model, AllowAll}
use Rattle.ledger_rows.specs.declared.rows.Cfg.{Cfg}
use Rattle.ledger_rows.specs.declared.rows.Engine.{Engine}
use Rattle.ledger_rows.specs.declared.rows.SessionRow.{SessionRow}
use Rattle.ledger_rows.specs.declared.rows.UserRow.{UserRow}
use Rattle.ledger_rows.specs.declared.verdict.Verdict.{Verdict}
use Rattle.ledger_rows.specs.declared.verdict.Verdict.TheVariants.{NoCookie, NotStored, Corrupt, NoAuth, BadBackend, NoUser, Inactive, BadHash, Admitted}

-- Django's salt of the hash that a session keeps
unfoldable pub session_auth_salt : List ℕ
session_auth_salt = codes "django.contrib.auth.models.AbstractBaseUser.get_session_auth_hash"

-- the hash that a session keeps of a password text, under a key: Django's `get_session_auth_hash`
unfoldable pub auth_hash : List ℕ → List ℕ → List ℕ
auth_hash password key = hex_text (salted_hmac session_auth_salt password key)

-- no session key is so short
abbrev pub is_short : Option (List ℕ) → Bool
is_short None = true
is_short (Some cookie) = nat_lt (length cookie) 8

-- the text of a session, while it isn't over
abbrev pub live_text : ℕ → Option SessionRow → Option (List ℕ)
live_text now None = None
live_text now (Some row) = if nat_lt now row.expire then Some row.text else None

-- the session text of a cookie: that of the row whose key it is, while the session isn't over; a short cookie is no key
abbrev pub session_text : List SessionRow → Option (List ℕ) → ℕ → Option (List ℕ)
session_text sessions None now = None
session_text sessions (Some key) now = if nat_lt (length key) 8 then None else live_text now (session_of sessions key)

abbrev pub map_in : Result Members DecodeFault → Option Members
map_in (Ok map) = Some map
map_in (Err fault) = None

-- the session that a text is read as under the keys
abbrev pub session_map : List (List ℕ) → ℕ → Option (List ℕ) → Option Members
session_map keys now None = None
session_map keys now (Some text) = map_in (decoded Stored keys now text)

-- the login that a session holds
abbrev pub auth_in : Option Members → Option SessionAuth
auth_in None = None
auth_in (Some map) = auth_of map

-- the user whom a login names
abbrev pub named_user : List UserRow → Option SessionAuth → Option UserRow
named_user users None = None
named_user users (Some auth) = user_of users auth.user

-- the configured backend of a path
abbrev pub backend_of : List Backend → List ℕ → Option Backend
backend_of [] path = None
backend_of (backend ∷ backends) path = if bytes_eq (path_of backend) path then Some backend else backend_of backends path

-- the row, where there is one, is that of the user whom the login names
abbrev pub IsRowOf : Option SessionAuth → Option UserRow → Type 0
IsRowOf None user = ⊤
IsRowOf (Some auth) None = ⊤
IsRowOf (Some auth) (Some user) = user.id ≡ auth.user

-- whether a backend admits a user
abbrev pub admits : Backend → UserRow → Bool
admits Model user = user.active
admits AllowAll user = true

-- a login that was lent
abbrev pub login_of : Option AuthPart → Option SessionAuth
login_of None = None
login_of (Some part) = Some (record { user = part.user; backend = part.backend.now; hash = part.hash.now })

-- the index of the first key under which the hash is that of the password text
abbrev pub key_index : List (List ℕ) → List ℕ → List ℕ → Option ℕ
key_index keys password hash = position (λ key. bytes_eq (auth_hash password key) hash) keys

abbrev pub verdict_on_hash : Option ℕ → Verdict
verdict_on_hash None = BadHash
verdict_on_hash (Some index) = Admitted index

abbrev pub verdict_on_user : Backend → List (List ℕ) → List ℕ → Option UserRow → Verdict
verdict_on_user backend keys hash None = NoUser
verdict_on_user backend keys hash (Some user) = if admits backend user then verdict_on_hash (key_index keys user.password hash) else Inactive

abbrev pub verdict_on_backend : Option Backend → List (List ℕ) → List ℕ → Option UserRow → Verdict
verdict_on_backend None keys hash user = BadBackend
verdict_on_backend (Some backend) keys hash user = verdict_on_user backend keys hash user

-- the lines on a session that was read: its auth part, the backend, the user and the hash
abbrev pub verdict_on_auth : List Backend → List (List ℕ) → Option SessionAuth → Option UserRow → Verdict
verdict_on_auth backends keys None user = NoAuth
verdict_on_auth backends keys (Some auth) user = verdict_on_backend (backend_of backends auth.backend) keys auth.hash user

-- the verdict by the cookie, the text that is stored under it, the session that this is read as, and its user: the
-- first line that holds
abbrev pub verdict_on : List Backend → List (List ℕ) → Option (List ℕ) → Option (List ℕ) → Option Members → Option UserRow → Verdict
verdict_on backends keys cookie None map user = if is_short cookie then NoCookie else NotStored
verdict_on backends keys cookie (Some text) None user = Corrupt
verdict_on backends keys cookie (Some text) (Some map) user = verdict_on_auth backends keys (auth_of map) user

-- what a load finds in a state: the text, the session and the user
abbrev pub found_text : Engine → State → Option (List ℕ) → ℕ → Option (List ℕ)
found_text engine state cookie now = session_text (rows_of engine state) cookie now

abbrev pub found_map : Engine → State → Option (List ℕ) → ℕ → Option Members
found_map engine state cookie now = session_map state.tables.keys now (found_text engine state cookie now)

abbrev pub found_user : Engine → State → Option (List ℕ) → ℕ → Option UserRow
found_user engine state cookie now = named_user state.tables.users (auth_in (found_map engine state cookie now))

-- the verdict of a load
abbrev pub verdict_of : Cfg → State → Option (List ℕ) → ℕ → Verdict
verdict_of cfg state cookie now =
    verdict_on cfg.backends state.tables.keys cookie (found_text cfg.engine state cookie now) (found_map cfg.engine state cookie now)
    (found_user cfg.engine state cookie now)

-- a cookie admits a user, by the key at an index: a session is stored under the cookie and isn't over; its text reads under
-- a present key as a map with a login; the login's backend is configured and admits the user whom it names; and its hash
-- is that of the user's present password text under the key at this index, and under none before
pub record IsAdmitted (cfg : Cfg) (state : State) (cookie : Option (List ℕ)) (now : ℕ) (user : UserRow) (index : ℕ) : Type 0 where
  pub key : List ℕ
  pub row : SessionRow
  pub map : Members
  pub time : ℕ
  pub auth : SessionAuth
  pub backend : Backend
  pub cookie_is : cookie ≡ Some key
  pub long : 8 ≤ length key
  pub stored : session_of (rows_of cfg.engine state) key ≡ Some row
  pub unexpired : now < row.expire
  pub reads : Encodes Stored state.tables.keys row.text map time
  pub login : auth_of map ≡ Some auth
  pub configured : Contains cfg.backends backend
  pub path : path_of backend ≡ auth.backend
  pub named : user_of state.tables.users auth.user ≡ Some user
  pub admitted : admits backend user ≡ true
  pub present : index < length state.tables.keys
  pub hash : auth_hash user.password (key_at state.tables.keys index) ≡ auth.hash
  pub first : (earlier : ℕ) → earlier < index → auth_hash user.password (key_at state.tables.keys earlier) ≢ auth.hash
