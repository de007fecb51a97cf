-- What operations do to the users of a store, after Django's `User` and its manager; the replies and the expected text are
-- this project's own.
use Rattle.std.specs.Prelude.{◌==◌, ◌+◌, ℕ, Bool, true, false, not, List, [], ◌∷◌, Option, None, Some, bytes_eq, filter, is_some, if◌then◌else◌}
use Rattle.std.specs.Ordering.{match_ordering, nat_cmp}
use Rattle.permissions.specs.PermissionSet.{HolderRow, permissions_of}
use Rattle.permissions.specs.declared.rows.GroupRow.{GroupRow}
use Rattle.permissions.specs.declared.rows.PermRow.{PermRow}
use Rattle.signing_core.specs.Keys.{key_at}
use Rattle.ledger_rows.specs.Admission.{auth_hash}
use Rattle.ledger_rows.specs.Tables.{put_user, user_named}
use Rattle.ledger_rows.specs.declared.rows.UserRow.{UserRow}
use Rattle.ledger_rows.specs.declared.reply.Reply.{Reply}
use Rattle.ledger_rows.specs.declared.reply.Reply.TheVariants.{Added, Differs, Done, NameTaken, NoGroup, NoRow, Perms, Written}

-- ---- ids in rising order

-- the ids with one more, unless it is among them
abbrev pub with_id : List ℕ → ℕ → List ℕ
with_id [] id = id ∷ []
with_id (first ∷ rest) id = match_ordering (nat_cmp first id) (first ∷ with_id rest id) (first ∷ rest) (id ∷ first ∷ rest)

-- the ids but one
abbrev pub without_id : List ℕ → ℕ → List ℕ
without_id ids id = filter (λ (other : ℕ). not (other == id)) ids

-- the ids, with that one or without it
abbrev pub membership : List ℕ → ℕ → Bool → List ℕ
membership ids id member = if member then with_id ids id else without_id ids id

-- ---- the row that is written

abbrev pub with_password : List ℕ → UserRow → UserRow
with_password fresh row = record row { password = fresh }

abbrev pub with_last_login : ℕ → UserRow → UserRow
with_last_login now row = record row { last_login = Some now }

abbrev pub with_active : Bool → UserRow → UserRow
with_active active row = record row { active = active }

abbrev pub with_membership : ℕ → Bool → UserRow → UserRow
with_membership group member row = record row { groups = membership row.groups group member }

-- an active user without groups, permissions and a login
abbrev pub new_user : ℕ → List ℕ → List ℕ → List ℕ → Bool → UserRow
new_user id name email password superuser =
    record { id = id; name = name; email = email; password = password; active = true; superuser = superuser; last_login = None; groups = []; perms = [] }

-- whether the user's password text is the expected one
abbrev pub has_password : List ℕ → UserRow → Bool
has_password expected row = bytes_eq row.password expected

-- ---- what is kept after, by the row that was found

-- a change of the row
abbrev pub rewritten : List UserRow → Option UserRow → (UserRow → UserRow) → List UserRow
rewritten users None change = users
rewritten users (Some row) change = put_user users (change row)

-- a password text in place of the expected one
abbrev pub repassworded : List UserRow → Option UserRow → List ℕ → List ℕ → List UserRow
repassworded users None expected fresh = users
repassworded users (Some row) expected fresh = if has_password expected row then put_user users (with_password fresh row) else users

-- the id of a group
abbrev pub id_of_group : Option GroupRow → Option ℕ
id_of_group None = None
id_of_group (Some group) = Some group.id

-- membership of the group that was found
abbrev pub regrouped : List UserRow → Option UserRow → Option ℕ → Bool → List UserRow
regrouped users None group member = users
regrouped users (Some row) None member = users
regrouped users (Some row) (Some group) member = put_user users (with_membership group member row)

-- one more user, by whether there is one of the name
abbrev pub added : List UserRow → Bool → UserRow → List UserRow
added users true row = users
added users false row = put_user users row

-- the id of the next user after that
abbrev pub next_after_adding : ℕ → Bool → ℕ
next_after_adding next true = next
next_after_adding next false = next + 1

-- whether there is a user of a name
abbrev pub has_name : List UserRow → List ℕ → Bool
has_name users name = is_some (user_named users name)

-- ---- replies, by the row that was found

-- to a change of it
abbrev pub row_reply : Option UserRow → Reply
row_reply None = NoRow
row_reply (Some row) = Done

abbrev pub password_reply : List (List ℕ) → Option UserRow → List ℕ → List ℕ → Reply
password_reply keys None expected fresh = NoRow
password_reply keys (Some row) expected fresh = if has_password expected row then Written (auth_hash fresh (key_at keys 0)) else Differs row.password

abbrev pub membership_reply : Option UserRow → Option ℕ → Reply
membership_reply None group = NoRow
membership_reply (Some row) None = NoGroup
membership_reply (Some row) (Some group) = Done

-- to the name's being taken
abbrev pub add_reply : ℕ → Bool → Reply
add_reply id true = NameTaken
add_reply id false = Added id

-- what of a user counts for permissions
abbrev pub holder_of : UserRow → HolderRow
holder_of row = record { active = row.active; superuser = row.superuser; groups = row.groups; perms = row.perms }

abbrev pub perms_reply : Option UserRow → List GroupRow → List PermRow → Reply
perms_reply None groups perms = NoRow
perms_reply (Some row) groups perms = Perms (permissions_of (holder_of row) groups perms)
