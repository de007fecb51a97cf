-- Changes of the session that a request holds: Django's `SessionBase.flush`, and `login`, `logout` and
-- `update_session_auth_hash` of `django.contrib.auth`.
use Rattle.std.specs.Prelude.{ℕ, List, [], Bool, true, false, not, ◌&&◌, ◌||◌, Option, Some, None, bytes_eq, decimal, if◌then◌else◌, is_some, unwrap_or}
use Rattle.serde_json.specs.Data.{Members, no_members, put, string}
use Rattle.serde_json.specs.Find.{get_member}
use Rattle.session_codec.specs.SessionMap.{backend_name, hash_name, text_at, user_id_name}
use Rattle.ledger_rows.specs.Backends.{path_of}
use Rattle.ledger_rows.specs.declared.reply.UserRead.{UserRead}
use Rattle.ledger_rows.specs.declared.rows.Backend.{Backend}
use Rattle.auth_backends.specs.declared.session_box.SessionBox.{SessionBox}

-- the key to delete: the session's own, where it is stored
abbrev pub dropped_key : Option (List ℕ) → Option (List ℕ) → Option (List ℕ)
dropped_key None earlier = earlier
dropped_key (Some key) earlier = Some key

-- Django's `flush`: the stored session is to be deleted, and a new one without entries begins
abbrev pub flushed : SessionBox → SessionBox
flushed session = record session { key = None; map = no_members; dropped = dropped_key session.key session.dropped; modified = true }

-- whether anybody is logged in: Django's `SESSION_KEY in request.session`
abbrev pub has_user : Members → Bool
has_user map = is_some (get_member user_id_name map)

-- whether the text, where there is one, is this id; a value that is no text is nobody's id
abbrev pub is_id : List ℕ → Option (List ℕ) → Bool
is_id id None = false
is_id id (Some text) = bytes_eq text id

-- the hash that a session keeps, empty where there is none: Django's `session.get(HASH_SESSION_KEY, "")`
abbrev pub kept_hash : Members → List ℕ
kept_hash map = unwrap_or (text_at hash_name map) []

-- whether it is the user of this id who is logged in, by a session that keeps this hash
abbrev pub is_login : List ℕ → List ℕ → Members → Bool
is_login id hash map = is_id id (text_at user_id_name map) && bytes_eq (kept_hash map) hash

-- whether a login keeps the other entries: nobody was logged in, or this user with this hash
abbrev pub keeps_entries : UserRead → Members → Bool
keeps_entries read map = not (has_user map) || is_login (decimal read.row.id) read.auth_hash map

-- the entries that a login keeps
abbrev pub kept_map : Bool → Members → Members
kept_map kept map = if kept then map else no_members

-- the names of a login, put into a map: Django's SESSION_KEY, BACKEND_SESSION_KEY and HASH_SESSION_KEY
abbrev pub with_names : List ℕ → List ℕ → List ℕ → Members → Members
with_names id path hash map = put hash_name (string hash) (put backend_name (string path) (put user_id_name (string id) map))

-- the session that a login is written into: one of another login is flushed
abbrev pub session_for : UserRead → SessionBox → SessionBox
session_for read session = if keeps_entries read session.map then session else flushed session

-- Django's `login`: the session of nobody gets a new key, as by `cycle_key`
abbrev pub login_changed : UserRead → Backend → SessionBox → SessionBox
login_changed read backend session = record (session_for read session) {
  map = with_names (decimal read.row.id) (path_of backend) read.auth_hash (kept_map (keeps_entries read session.map) session.map);
  cycle = session.cycle || not (has_user session.map);
  modified = true;
}

-- Django's `update_session_auth_hash`: the new hash, under a new key
abbrev pub rehashed : List ℕ → SessionBox → SessionBox
rehashed hash session = record session { map = put hash_name (string hash) session.map; cycle = true; modified = true }
