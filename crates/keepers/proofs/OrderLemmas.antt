-- Rows in the order of their ids: those of an opening, those that a filter keeps, and those that changes leave.
use Rattle.std.proofs.Common.{◌≡◌, ◌+◌, ◌<◌, ℕ, suc, Bool, max, List, [], ◌∷◌, All, Ordering, Less, Equal, Greater, filter, length, map, refl, arith}
use Rattle.std.specs.Cmp.{ranked}
use Rattle.std.specs.List.{AllPairs}
use Rattle.std.specs.List.Sorted.{IsStrictlyIncreasing}
use Rattle.std.specs.Ordering.{match_ordering, nat_cmp}
use Rattle.std.proofs.lemmas.List.{get_or-map, length-map}
use Rattle.std.proofs.lemmas.List.Elements.{All-cons, All-nil, All-weaker}
use Rattle.std.proofs.lemmas.List.Kept.{AllPairs-cons, AllPairs-filter, AllPairs-from_increasing}
use Rattle.crypto_text.specs.TextList.{AreDifferent}
use Rattle.ledger_rows.specs.Opening.{IsOpening, ids_of_groups, ids_of_perms, ids_of_users, names_of_users}
use Rattle.ledger_rows.specs.Rows.{AreInOrder, IsMailBefore, IsUserBefore}
use Rattle.ledger_rows.specs.Tables.{Tables, greatest_id, opening_tables, put_mail, put_user}
use Rattle.ledger_rows.specs.declared.rows.MailRow.{MailRow}
use Rattle.ledger_rows.specs.declared.rows.Opening.{Opening}
use Rattle.ledger_rows.specs.declared.rows.UserRow.{UserRow}
use Rattle.ledger_rows.proofs.TableLemmas.{All-put_mail, All-put_user, All-without_mail}
use Rattle.keepers.specs.Keeper.{changed, changed_by}
use Rattle.keepers.specs.declared.change.Change.{Change}
use Rattle.keepers.specs.declared.change.Change.TheVariants.{DropExpired, DropMail, DropSession, PutBoot, PutKeys, PutMail, PutSession, PutUser}

-- ---- ids that rise, as a fact of any two rows

AllPairs-head : {R : Type 0} (S : R → R → Type 0) (first : R) (rest : List R) → AllPairs S (first ∷ rest) → All (S first) rest
AllPairs-head S first rest all = λ k d low. all 0 (suc k) d (omega arith) (omega arith)

AllPairs-tail : {R : Type 0} (S : R → R → Type 0) (first : R) (rest : List R) → AllPairs S (first ∷ rest) → AllPairs S rest
AllPairs-tail S first rest all = λ i j d below low. all (suc i) (suc j) d (omega arith) (omega arith)

rows_rise : {R : Type 0} (id : R → ℕ) (rows : List R) → IsStrictlyIncreasing (map id rows) → AllPairs (λ a b. id a < id b) rows
rows_rise id rows rising = λ i j d below low.
    let all = AllPairs-from_increasing (map id rows) rising i j (id d) below (rw length-map low) in
    let first = get_or-map id rows i d (id d) (omega arith) in
    let second = get_or-map id rows j d (id d) low in
    omega arith

ids_rise : {R : Type 0} (id : R → ℕ) (rows : List R) → AllPairs (λ a b. id a < id b) rows → IsStrictlyIncreasing (map id rows)
ids_rise id [] all = λ k low. absurd (omega arith)
ids_rise id (head ∷ rest) all = λ k low.
    let within : k + 1 < length (head ∷ rest) = rw length-map at low in
    let ordered = all k (k + 1) head (omega arith) within in
    let first = get_or-map id (head ∷ rest) k head 0 (omega arith) in
    let second = get_or-map id (head ∷ rest) (k + 1) head 0 within in
    omega arith

pub filter-rises : {R : Type 0} (id : R → ℕ) (test : R → Bool) (rows : List R) → IsStrictlyIncreasing (map id rows)
    → IsStrictlyIncreasing (map id (filter test rows))
filter-rises id test rows rising = ids_rise id (filter test rows) (AllPairs-filter (λ a b. id a < id b) test rows (rows_rise id rows rising))

-- ---- a user is put in

abbrev IsBelow : UserRow → UserRow → Type 0
IsBelow a b = a.id < b.id

put_user-at : (o : Ordering) (first row : UserRow) (rest : List UserRow) → o ≡ nat_cmp first.id row.id → AllPairs IsBelow (first ∷ rest)
    → AllPairs IsBelow (put_user rest row) → AllPairs IsBelow (match_ordering o (first ∷ put_user rest row) (row ∷ rest) (row ∷ first ∷ rest))
put_user-at Less first row rest is all put =
    let above = AllPairs-head IsBelow first rest all in
    AllPairs-cons IsBelow first (put_user rest row) (All-put_user (IsBelow first) rest row above (ranked first.id row.id Less is)) put
put_user-at Equal first row rest is all put =
    let same : first.id ≡ row.id = ranked first.id row.id Equal is in
    AllPairs-cons IsBelow row rest (All-weaker (IsBelow first) (IsBelow row) (λ b low. omega arith) rest (AllPairs-head IsBelow first rest all))
    (AllPairs-tail IsBelow first rest all)
put_user-at Greater first row rest is all put =
    let low : row.id < first.id = ranked first.id row.id Greater is in
    let above = All-weaker (IsBelow first) (IsBelow row) (λ b high. omega arith) rest (AllPairs-head IsBelow first rest all) in
    AllPairs-cons IsBelow row (first ∷ rest) (All-cons (IsBelow row) first rest low above) all

put_user-pairs : (rows : List UserRow) (row : UserRow) → AllPairs IsBelow rows → AllPairs IsBelow (put_user rows row)
put_user-pairs [] row all = AllPairs-cons IsBelow row [] (All-nil (IsBelow row)) all
put_user-pairs (first ∷ rest) row all =
    put_user-at (nat_cmp first.id row.id) first row rest refl all (put_user-pairs rest row (AllPairs-tail IsBelow first rest all))

put_user-rises : (rows : List UserRow) (row : UserRow) → IsStrictlyIncreasing (ids_of_users rows) → IsStrictlyIncreasing (ids_of_users (put_user rows row))
put_user-rises rows row rising =
    let id : UserRow → ℕ = λ user. user.id in
    ids_rise id (put_user rows row) (put_user-pairs rows row (rows_rise id rows rising))

put_user-before : (next : ℕ) (rows : List UserRow) (row : UserRow) → All (IsUserBefore next) rows
    → All (IsUserBefore (max next (row.id + 1))) (put_user rows row)
put_user-before next rows row all =
    All-put_user (IsUserBefore (max next (row.id + 1))) rows row
    (All-weaker (IsUserBefore next) (IsUserBefore (max next (row.id + 1))) (λ user low. omega arith) rows all) (omega arith)

put_mail-before : (next : ℕ) (rows : List MailRow) (row : MailRow) → All (IsMailBefore next) rows
    → All (IsMailBefore (max next (row.id + 1))) (put_mail rows row)
put_mail-before next rows row all =
    All-put_mail (IsMailBefore (max next (row.id + 1))) rows row
    (All-weaker (IsMailBefore next) (IsMailBefore (max next (row.id + 1))) (λ mail low. omega arith) rows all) (omega arith)

-- ---- a new store

greatest_id-before : (users : List UserRow) → All (IsUserBefore (greatest_id users + 1)) users
greatest_id-before [] = All-nil (IsUserBefore 1)
greatest_id-before (user ∷ users) =
    let next = max user.id (greatest_id users) + 1 in
    All-cons (IsUserBefore next) user users (omega arith)
    (All-weaker (IsUserBefore (greatest_id users + 1)) (IsUserBefore next) (λ other low. omega arith) users (greatest_id-before users))

pub opening_rows_are_in_order : (opening : Opening) → IsOpening opening → AreInOrder (opening_tables opening)
opening_rows_are_in_order opening is = record {
  users = is.users.ids.rising;
  names = is.users.names;
  groups = is.groups.ids.rising;
  perms = is.perms.ids.rising;
  next_user = greatest_id-before opening.users;
  next_mail = All-nil (IsMailBefore 1);
}

-- ---- after changes

-- the order but for the names, of which two may be the same between two changes
abbrev AreRising : Tables → Type 0
AreRising tables =
    IsStrictlyIncreasing (ids_of_users tables.users) × All (IsUserBefore tables.next_user) tables.users × All (IsMailBefore tables.next_mail) tables.mails
    × IsStrictlyIncreasing (ids_of_groups tables.groups) × IsStrictlyIncreasing (ids_of_perms tables.perms)

changed-rising : (tables : Tables) (change : Change) → AreRising tables → AreRising (changed tables change)
changed-rising tables (PutSession row) rising = rising
changed-rising tables (DropSession key) rising = rising
changed-rising tables (DropExpired now) rising = rising
changed-rising tables (PutUser row) (users, next_user, next_mail, groups, perms) =
    (put_user-rises tables.users row users, put_user-before tables.next_user tables.users row next_user, next_mail, groups, perms)
changed-rising tables (PutMail row) (users, next_user, next_mail, groups, perms) =
    (users, next_user, put_mail-before tables.next_mail tables.mails row next_mail, groups, perms)
changed-rising tables (DropMail id) (users, next_user, next_mail, groups, perms) =
    (users, next_user, All-without_mail (IsMailBefore tables.next_mail) tables.mails id next_mail, groups, perms)
changed-rising tables (PutKeys keys) rising = rising
changed-rising tables (PutBoot boot) rising = rising

changed_by-rising : (changes : List Change) (tables : Tables) → AreRising tables → AreRising (changed_by changes tables)
changed_by-rising [] tables rising = rising
changed_by-rising (change ∷ changes) tables rising = changed_by-rising changes (changed tables change) (changed-rising tables change rising)

pub changed_by-in_order : (changes : List Change) (tables : Tables) → AreInOrder tables → AreDifferent (names_of_users (changed_by changes tables).users)
    → AreInOrder (changed_by changes tables)
changed_by-in_order changes tables order names =
    let rising : AreRising (changed_by changes tables) =
    changed_by-rising changes tables (order.users, order.next_user, order.next_mail, order.groups, order.perms) in
    record {
      users = rising.0;
      names = names;
      groups = rising.3;
      perms = rising.4;
      next_user = rising.1;
      next_mail = rising.2;
    }
