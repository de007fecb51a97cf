-- When the field `opening` of a settings file is well formed, and the opening that it says. This project's own.
use Rattle.std.specs.Prelude.{◌≡◌, ◌<◌, ℕ, List, [], ◌∷◌, IsSome, Option, Some, None, length, map, slice_index_or}
use Rattle.std.specs.List.{All}
use Rattle.serde_json.specs.Data.{Data}
use Rattle.signing_core.specs.Keys.{key_at}
use Rattle.session_codec.specs.SessionMap.{auth_members}
use Rattle.session_codec.specs.SessionText.{text_of}
use Rattle.session_codec.specs.declared.session_text.SessionKind.TheVariants.{Stored}
use Rattle.ledger_rows.specs.Admission.{auth_hash}
use Rattle.ledger_rows.specs.Backends.{path_of}
use Rattle.ledger_rows.specs.Form.{IsSessionKey}
use Rattle.crypto_text.specs.TextList.{AreDifferent}
use Rattle.ledger_rows.specs.Opening.{AreOpeningGroups, AreOpeningPerms, AreOpeningUsers, AreRowIds, ids_of_groups, ids_of_perms, ids_of_users}
use Rattle.ledger_rows.specs.Tables.{user_of}
use Rattle.crypto_text.specs.Moment.{IsMoment}
use Rattle.ledger_rows.specs.declared.rows.Backend.{Backend}
use Rattle.ledger_rows.specs.declared.rows.Backend.TheVariants.{Model}
use Rattle.ledger_rows.specs.declared.rows.Opening.{Opening}
use Rattle.ledger_rows.specs.declared.rows.SessionRow.{SessionRow}
use Rattle.ledger_rows.specs.declared.rows.UserRow.{UserRow}
use Rattle.site_file.specs.Entries.{entries_of}
use Rattle.site_file.specs.declared.entries.Entries.{Entries}
use Rattle.site_file.specs.declared.entries.SessionEntry.{SessionEntry}

abbrev pub keys_of_entries : List SessionEntry → List (List ℕ)
keys_of_entries sessions = map (λ (entry : SessionEntry). entry.key) sessions

-- a session of an opening user, by one of the backends and under one of the keys
pub record IsSessionEntry (keys : List (List ℕ)) (backends : List Backend) (users : List UserRow) (entry : SessionEntry) : Type 0 where
  pub key : IsSessionKey entry.key
  pub user : IsSome (user_of users entry.user)
  pub backend : entry.backend < length backends
  pub under : entry.under < length keys
  pub began : IsMoment entry.began
  pub expire : IsMoment entry.expire

pub record AreSessionEntries (keys : List (List ℕ)) (backends : List Backend) (users : List UserRow) (sessions : List SessionEntry) : Type 0 where
  pub session_keys : AreDifferent (keys_of_entries sessions)
  pub rows : All (IsSessionEntry keys backends users) sessions

-- the ids of each table are those of rows
pub record HaveRowIds (entries : Entries) : Type 0 where
  pub users : AreRowIds (ids_of_users entries.users)
  pub groups : AreRowIds (ids_of_groups entries.groups)
  pub perms : AreRowIds (ids_of_perms entries.perms)

-- all rows are well formed, under these keys and by these backends
pub record AreEntries (keys : List (List ℕ)) (backends : List Backend) (entries : Entries) : Type 0 where
  pub users : AreOpeningUsers (ids_of_groups entries.groups) (ids_of_perms entries.perms) entries.users
  pub groups : AreOpeningGroups (ids_of_perms entries.perms) entries.groups
  pub perms : AreOpeningPerms entries.perms
  pub sessions : AreSessionEntries keys backends entries.users entries.sessions

-- the password text of a user
abbrev pub password_of : Option UserRow → List ℕ
password_of None = []
password_of (Some user) = user.password

-- the backend at an index below the length
abbrev pub backend_at : List Backend → ℕ → Backend
backend_at backends at = slice_index_or backends at Model

-- the map of a session that its user began by a backend, signed under a key, as its hash is
abbrev pub session_text : List UserRow → SessionEntry → Backend → List ℕ → List ℕ
session_text users entry backend key =
    text_of Stored (auth_members entry.user (path_of backend) (auth_hash (password_of (user_of users entry.user)) key)) (key ∷ []) entry.began

unfoldable pub session_row : List (List ℕ) → List Backend → List UserRow → SessionEntry → SessionRow
session_row keys backends users entry = record {
  key = entry.key;
  text = session_text users entry (backend_at backends entry.backend) (key_at keys entry.under);
  expire = entry.expire;
}

unfoldable pub opening_from : List (List ℕ) → List Backend → Entries → Opening
opening_from keys backends entries = record {
  keys = keys;
  users = entries.users;
  groups = entries.groups;
  perms = entries.perms;
  sessions = map (session_row keys backends entries.users) entries.sessions;
}

-- what the field says under these keys and by these backends, where its rows are well formed
pub record IsOpeningOf (keys : List (List ℕ)) (backends : List Backend) (value : Option Data) (opening : Opening) : Type 0 where
  pub entries : Entries
  pub read : entries_of value ≡ Some entries
  pub form : AreEntries keys backends entries
  pub rows : opening ≡ opening_from keys backends entries
