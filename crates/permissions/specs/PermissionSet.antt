-- Which permissions a user has, as Django's `ModelBackend` answers it.
use Rattle.std.specs.Prelude.{◌≡◌, ◌⊎◌, ℕ, ◌==◌, ◌&&◌, ◌||◌, Bool, true, List, [], ◌∷◌, ◌++◌, All, Contains, map}
use Rattle.std.specs.List.{Any, filter, flat_map, fold, list_any}
use Rattle.std.specs.BTreeSet.{insert_key}
use Rattle.std.specs.Cmp.Lexicographic.{slice_cmp}
use Rattle.std.specs.Ordering.{nat_cmp}
use Rattle.permissions.specs.declared.rows.GroupRow.{GroupRow}
use Rattle.permissions.specs.declared.rows.Holder.{Holder}
use Rattle.permissions.specs.declared.rows.PermRow.{PermRow}

-- what of a user counts for permissions: the ids of his groups and of his own permissions
pub record HolderRow : Type 0 where
  pub active : Bool
  pub superuser : Bool
  pub groups : List ℕ
  pub perms : List ℕ

-- the row of what a caller gives
abbrev pub holder_row : Holder → HolderRow
holder_row user = record { active = user.active; superuser = user.superuser; groups = user.groups.now; perms = user.perms.now }

-- the name of a permission: `app.codename`
abbrev pub name_of : PermRow → List ℕ
name_of row = row.app ++ (46 ∷ row.codename)

-- the id is one of the list
abbrev pub is_listed : List ℕ → ℕ → Bool
is_listed ids id = list_any (λ listed. listed == id) ids

-- the ids of the permissions that the user's groups have
abbrev pub ids_of_groups : HolderRow → List GroupRow → List ℕ
ids_of_groups user groups = flat_map (λ (group : GroupRow). group.perms) (filter (λ (group : GroupRow). is_listed user.groups group.id) groups)

-- an active user has a permission that is listed, and an active superuser each
abbrev pub is_held : HolderRow → List ℕ → PermRow → Bool
is_held user ids row = user.active && (user.superuser || is_listed ids row.id)

-- the names in byte order, each once
unfoldable pub in_order : List (List ℕ) → List (List ℕ)
in_order names = fold (insert_key (slice_cmp nat_cmp)) [] names

-- the names of the rows that pass a test
abbrev pub names_of : (PermRow → Bool) → List PermRow → List (List ℕ)
names_of test perms = in_order (map name_of (filter test perms))

-- an active superuser has all permissions, also those of no row
abbrev pub has_all : HolderRow → Bool
has_all user = user.active && user.superuser

-- a set of permissions: whether every question is answered yes, and the names
pub record Permissions : Type 0 where
  pub all : Bool
  pub names : List (List ℕ)

-- all permissions of a user: those of his groups and his own
abbrev pub permissions_of : HolderRow → List GroupRow → List PermRow → Permissions
permissions_of user groups perms = record { all = has_all user; names = names_of (is_held user (ids_of_groups user groups ++ user.perms)) perms }

-- those that he has through his groups
abbrev pub group_permissions_of : HolderRow → List GroupRow → List PermRow → Permissions
group_permissions_of user groups perms = record { all = has_all user; names = names_of (is_held user (ids_of_groups user groups)) perms }

-- the set answers yes to a name
abbrev pub HasPerm : Permissions → List ℕ → Type 0
HasPerm set name = (set.all ≡ true) ⊎ Contains set.names name

-- the set answers yes to each of the names
abbrev pub HasPerms : Permissions → List (List ℕ) → Type 0
HasPerms set names = (set.all ≡ true) ⊎ All (Contains set.names) names

-- the name is one of the app: it begins with the app and a dot
abbrev pub IsOfApp : List ℕ → List ℕ → Type 0
IsOfApp app name = (codename : List ℕ) × (name ≡ app ++ (46 ∷ codename))

-- the set answers yes to an app
abbrev pub HasModulePerms : Permissions → List ℕ → Type 0
HasModulePerms set app = (set.all ≡ true) ⊎ Any (IsOfApp app) set.names
