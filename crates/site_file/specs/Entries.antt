-- The rows that the field `opening` of a settings file writes down, whether they are well formed or not. This project's own.
use Rattle.std.specs.Prelude.{ℕ, List, [], ◌∷◌, Option, Some, None, codes, if◌then◌else◌}
use Rattle.serde_json.specs.Data.{Data}
use Rattle.serde_json.specs.Find.{as_bool, as_object, as_str, get}
use Rattle.permissions.specs.declared.rows.GroupRow.{GroupRow}
use Rattle.permissions.specs.declared.rows.PermRow.{PermRow}
use Rattle.ledger_rows.specs.declared.rows.UserRow.{UserRow}
use Rattle.site_file.specs.Fields.{◌>>=◌, field, has_only, list_in, list_or_empty, number_in}
use Rattle.site_file.specs.declared.entries.Entries.{Entries}
use Rattle.site_file.specs.declared.entries.SessionEntry.{SessionEntry}

-- the names of an opening user
abbrev pub user_names : List (List ℕ)
user_names = codes "id" ∷ codes "name" ∷ codes "email" ∷ codes "password" ∷ codes "active" ∷ codes "superuser" ∷ codes "groups" ∷ codes "perms" ∷ []

abbrev pub group_names : List (List ℕ)
group_names = codes "id" ∷ codes "name" ∷ codes "perms" ∷ []

abbrev pub perm_names : List (List ℕ)
perm_names = codes "id" ∷ codes "app" ∷ codes "codename" ∷ []

abbrev pub session_names : List (List ℕ)
session_names = codes "key" ∷ codes "user" ∷ codes "backend" ∷ codes "under" ∷ codes "at" ∷ codes "expire" ∷ []

abbrev pub opening_names : List (List ℕ)
opening_names = codes "users" ∷ codes "groups" ∷ codes "perms" ∷ codes "sessions" ∷ []

-- a user: each of the names, and no other; nobody has logged in yet
unfoldable pub user_parts : Data → Option UserRow
user_parts d = do
  id ← field number_in (codes "id") d
  name ← field as_str (codes "name") d
  email ← field as_str (codes "email") d
  password ← field as_str (codes "password") d
  active ← field as_bool (codes "active") d
  superuser ← field as_bool (codes "superuser") d
  groups ← field (list_in number_in) (codes "groups") d
  perms ← field (list_in number_in) (codes "perms") d
  Some (record { id = id; name = name; email = email; password = password; active = active; superuser = superuser; last_login = None; groups = groups; perms = perms })

unfoldable pub user_in : Data → Option UserRow
user_in d = if has_only user_names (as_object d) then user_parts d else None

unfoldable pub group_parts : Data → Option GroupRow
group_parts d = do
  id ← field number_in (codes "id") d
  name ← field as_str (codes "name") d
  perms ← field (list_in number_in) (codes "perms") d
  Some (record { id = id; name = name; perms = perms })

unfoldable pub group_in : Data → Option GroupRow
group_in d = if has_only group_names (as_object d) then group_parts d else None

unfoldable pub perm_parts : Data → Option PermRow
perm_parts d = do
  id ← field number_in (codes "id") d
  app ← field as_str (codes "app") d
  codename ← field as_str (codes "codename") d
  Some (record { id = id; app = app; codename = codename })

unfoldable pub perm_in : Data → Option PermRow
perm_in d = if has_only perm_names (as_object d) then perm_parts d else None

unfoldable pub session_parts : Data → Option SessionEntry
session_parts d = do
  key ← field as_str (codes "key") d
  user ← field number_in (codes "user") d
  backend ← field number_in (codes "backend") d
  under ← field number_in (codes "under") d
  began ← field number_in (codes "at") d
  expire ← field number_in (codes "expire") d
  Some (record { key = key; user = user; backend = backend; under = under; began = began; expire = expire })

unfoldable pub session_in : Data → Option SessionEntry
session_in d = if has_only session_names (as_object d) then session_parts d else None

-- the four lists, each empty where its name is absent
unfoldable pub entries_parts : Data → Option Entries
entries_parts d = do
  users ← list_or_empty user_in (get (codes "users") d)
  groups ← list_or_empty group_in (get (codes "groups") d)
  perms ← list_or_empty perm_in (get (codes "perms") d)
  sessions ← list_or_empty session_in (get (codes "sessions") d)
  Some (record { users = users; groups = groups; perms = perms; sessions = sessions })

unfoldable pub entries_in : Data → Option Entries
entries_in d = if has_only opening_names (as_object d) then entries_parts d else None

abbrev pub no_entries : Entries
no_entries = record { users = []; groups = []; perms = []; sessions = [] }

-- the field `opening`, which may be absent
abbrev pub entries_of : Option Data → Option Entries
entries_of None = Some no_entries
entries_of (Some d) = entries_in d
