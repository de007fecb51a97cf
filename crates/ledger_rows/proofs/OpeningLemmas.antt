-- The rows that a new store begins with are sound.
use Rattle.std.proofs.Common.{ℕ, List, [], ◌∷◌, All, map, sym, subst, arith}
use Rattle.std.proofs.lemmas.List.Elements.{All-cons, All-contains, All-head, All-nil, All-tail, All-weaker}
use Rattle.permissions.specs.declared.rows.GroupRow.{GroupRow}
use Rattle.permissions.specs.declared.rows.PermRow.{PermRow}
use Rattle.ledger_rows.specs.Laws.{OpeningRowsAreSound}
use Rattle.ledger_rows.specs.Opening.{AreIdsAmong, AreRowIds, IsId, IsIdAmong, IsOpeningGroup, IsOpeningPerm, IsOpeningSession, IsOpeningUser, ids_of_groups, ids_of_perms}
use Rattle.ledger_rows.specs.Rows.{IsLastLogin, IsNumber, IsSoundGroup, IsSoundMail, IsSoundPerm, IsSoundSession, IsSoundUser}
use Rattle.ledger_rows.specs.declared.rows.UserRow.{UserRow}
use Rattle.ledger_rows.proofs.TableLemmas.{All-sorted_sessions}

id_is_number : (id : ℕ) → IsId id → IsNumber id
id_is_number id small = omega (arith, small.last)

all_unmapped : {R : Type 0} (P : ℕ → Type 0) (f : R → ℕ) (rows : List R) → All P (map f rows) → All (λ row. P (f row)) rows
all_unmapped P f [] all = All-nil (λ row. P (f row))
all_unmapped P f (row ∷ rows) all =
    All-cons (λ row. P (f row)) row rows (All-head P (f row) (map f rows) all) (all_unmapped P f rows (All-tail P (f row) (map f rows) all))

all_both : {R : Type 0} (P Q S : R → Type 0) → ((row : R) → P row → Q row → S row) → (rows : List R) → All P rows → All Q rows → All S rows
all_both P Q S goes rows p q = λ k d low. goes _ (p k d low) (q k d low)

ids_are_numbers : (row_ids ids : List ℕ) → AreRowIds row_ids → AreIdsAmong row_ids ids → All IsNumber ids
unfolding IsIdAmong
ids_are_numbers row_ids ids rows among =
    All-weaker (IsIdAmong row_ids) IsNumber (λ id present. id_is_number id (All-contains IsId row_ids id rows.bounds present)) ids among.present

user_is_sound : (group_ids perm_ids : List ℕ) → AreRowIds group_ids → AreRowIds perm_ids → (user : UserRow) → IsId user.id → IsOpeningUser group_ids perm_ids user → IsSoundUser user
user_is_sound group_ids perm_ids groups perms user id opening = record {
  id = id_is_number user.id id;
  name = opening.name;
  email = opening.email;
  password = opening.password;
  last_login = subst IsLastLogin (sym opening.no_login) tt;
  groups = ids_are_numbers group_ids user.groups groups opening.groups;
  perms = ids_are_numbers perm_ids user.perms perms opening.perms;
}

group_is_sound : (perm_ids : List ℕ) → AreRowIds perm_ids → (group : GroupRow) → IsId group.id → IsOpeningGroup perm_ids group → IsSoundGroup group
unfolding IsOpeningGroup
group_is_sound perm_ids perms group id opening = record { id = id_is_number group.id id; perms = ids_are_numbers perm_ids group.perms perms opening }

perm_is_sound : (perm : PermRow) → IsId perm.id → IsOpeningPerm perm → IsSoundPerm perm
perm_is_sound perm id opening = record { id = id_is_number perm.id id; app = opening.app; codename = opening.codename }

pub opening_rows_are_sound : OpeningRowsAreSound
opening_rows_are_sound opening is = record {
  users =
      all_both (λ (user : UserRow). IsId user.id) (IsOpeningUser (ids_of_groups opening.groups) (ids_of_perms opening.perms)) IsSoundUser
      (user_is_sound (ids_of_groups opening.groups) (ids_of_perms opening.perms) is.groups.ids is.perms.ids) opening.users
      (all_unmapped IsId (λ (user : UserRow). user.id) opening.users is.users.ids.bounds) is.users.rows;
  groups =
      all_both (λ (group : GroupRow). IsId group.id) (IsOpeningGroup (ids_of_perms opening.perms)) IsSoundGroup
      (group_is_sound (ids_of_perms opening.perms) is.perms.ids) opening.groups
      (all_unmapped IsId (λ (group : GroupRow). group.id) opening.groups is.groups.ids.bounds) is.groups.rows;
  perms =
      all_both (λ (perm : PermRow). IsId perm.id) IsOpeningPerm IsSoundPerm perm_is_sound opening.perms
      (all_unmapped IsId (λ (perm : PermRow). perm.id) opening.perms is.perms.ids.bounds) is.perms.rows;
  sessions = All-sorted_sessions IsSoundSession opening.sessions (All-weaker (IsOpeningSession opening) IsSoundSession (λ row session. session.key) opening.sessions is.sessions);
  mails = All-nil IsSoundMail;
  boot = omega arith;
}
