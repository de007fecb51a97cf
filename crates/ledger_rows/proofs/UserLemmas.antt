-- Users: where a row that was found stands, and that no operation gives two users one name.
use Rattle.std.proofs.Common.{◌≡◌, ◌≢◌, ◌<◌, ◌==◌, ◌++◌, ℕ, zero, suc, Bool, true, false, List, [], ◌∷◌, Option, Some, None, All, Contains, Less, Equal, bytes_eq, get_or, if◌then◌else◌, inl, inr, is_some, length, slice_index, suc-add, ⊎_elim, ◌⊎◌, ap, refl, subst, sym, ◌∙◌, arith}
use Rattle.std.specs.Cmp.{nat_cmp_is}
use Rattle.std.specs.List.Sorted.{IsStrictlyIncreasing}
use Rattle.std.specs.Ordering.{match_ordering, nat_cmp}
use Rattle.std.proofs.lemmas.List.{map-append}
use Rattle.std.proofs.lemmas.List.Elements.{All-cons, All-contains, All-head, All-nil, All-tail}
use Rattle.std.proofs.lemmas.List.Kept.{AllPairs-from_increasing}
use Rattle.std.proofs.lemmas.List.Quantifiers.{all_pairs_push}
use Rattle.std.proofs.lemmas.Slice.Eq.{bytes_eq-Decides}
use Rattle.std.specs.Bool.{Decides}
use Rattle.crypto_text.specs.TextList.{AreDifferent}
use Rattle.ledger_rows.specs.Laws.{NamesStayDifferent}
use Rattle.ledger_rows.specs.Opening.{ids_of_users, names_of_users}
use Rattle.ledger_rows.specs.Rows.{IsUserBefore}
use Rattle.ledger_rows.specs.Tables.{put_user, user_named, user_of}
use Rattle.ledger_rows.specs.UserSteps.{added, has_name, has_password, regrouped, repassworded, rewritten, with_active, with_last_login, with_membership, with_password}
use Rattle.ledger_rows.specs.declared.operation.Op.TheVariants.{AddUser, Boot, CheckReset, ClearExpired, Create, Cycle, Delete, FindUser, Load, MakeReset, Perms, RetireKeys, RotateKey, Save, SetActive, SetLastLogin, SetMembership, SetPassword, TakeMail}
use Rattle.ledger_rows.specs.declared.rows.UserRow.{UserRow}

-- ---- where a row that was found stands

first_is : (first row : UserRow) (rest : List UserRow) → first ≡ row → Contains (first ∷ rest) row
first_is first row rest is = (0, omega arith, is)

later_is : (first row : UserRow) (rest : List UserRow) → Contains rest row → Contains (first ∷ rest) row
later_is first row rest found = (suc found.0, omega (arith, found.1), found.2)

some_or : Option UserRow → UserRow → UserRow
some_or None row = row
some_or (Some found) row = found

by_test : (b : Bool) (first row : UserRow) (rest : List UserRow) (found : Option UserRow) → (if b then Some first else found) ≡ Some row
    → (found ≡ Some row → Contains rest row) → Contains (first ∷ rest) row
unfolding some_or
by_test true first row rest found is later = first_is first row rest (ap (λ found. some_or found first) is)
by_test false first row rest found is later = later_is first row rest (later is)

pub user_of-Contains : (users : List UserRow) (id : ℕ) (row : UserRow) → user_of users id ≡ Some row → Contains users row
user_of-Contains [] id row is = cc
user_of-Contains (first ∷ rest) id row is = by_test (first.id == id) first row rest (user_of rest id) is (user_of-Contains rest id row)

pub user_named-Contains : (users : List UserRow) (name : List ℕ) (row : UserRow) → user_named users name ≡ Some row → Contains users row
user_named-Contains [] name row is = cc
user_named-Contains (first ∷ rest) name row is = by_test (bytes_eq first.name name) first row rest (user_named rest name) is (user_named-Contains rest name row)

-- ---- a row that is written again stands where it stood

rising_rest : (first : ℕ) (rest : List ℕ) → IsStrictlyIncreasing (first ∷ rest) → IsStrictlyIncreasing rest
rising_rest first rest rising =
    λ k low. subst (λ m. slice_index (first ∷ rest) (suc k) < slice_index (first ∷ rest) m) (suc-add k 1) (rising (suc k) (omega (arith, low)))

all_above : (first : UserRow) (rest : List UserRow) → IsStrictlyIncreasing (ids_of_users (first ∷ rest)) → All (λ id. first.id < id) (ids_of_users rest)
all_above first rest rising = λ k d low. AllPairs-from_increasing (ids_of_users (first ∷ rest)) rising 0 (suc k) d (omega arith) (omega (arith, low))

all_unmapped : (P : ℕ → Type 0) (rows : List UserRow) → All P (ids_of_users rows) → All (λ (row : UserRow). P row.id) rows
all_unmapped P [] all = All-nil (λ (row : UserRow). P row.id)
all_unmapped P (row ∷ rows) all =
    All-cons (λ (r : UserRow). P r.id) row rows (All-head P row.id (ids_of_users rows) all) (all_unmapped P rows (All-tail P row.id (ids_of_users rows) all))

is_less : (a b : ℕ) → a < b → nat_cmp a b ≡ Less
is_less a b low = sym (nat_cmp_is a b Less low)

is_equal : (a b : ℕ) → a ≡ b → nat_cmp a b ≡ Equal
is_equal a b same = sym (nat_cmp_is a b Equal same)

-- the first of the rows is passed, or it is the one
put-later : (first row : UserRow) (rest : List UserRow) → first.id < row.id → put_user (first ∷ rest) row ≡ first ∷ put_user rest row
put-later first row rest low = ap (λ o. match_ordering o (first ∷ put_user rest row) (row ∷ rest) (row ∷ first ∷ rest)) (is_less first.id row.id low)

put-here : (first row : UserRow) (rest : List UserRow) → first.id ≡ row.id → put_user (first ∷ rest) row ≡ row ∷ rest
put-here first row rest same = ap (λ o. match_ordering o (first ∷ put_user rest row) (row ∷ rest) (row ∷ first ∷ rest)) (is_equal first.id row.id same)

contains_cases : (first row : UserRow) (rest : List UserRow) (k : ℕ) → k < length (first ∷ rest) → get_or (first ∷ rest) k row ≡ row → (first ≡ row) ⊎ Contains rest row
contains_cases first row rest zero low at = inl at
contains_cases first row rest (suc k) low at = inr (k, omega (arith, low), at)

pub names-rewritten : (users : List UserRow) (row fresh : UserRow) → IsStrictlyIncreasing (ids_of_users users) → Contains users row
    → fresh.id ≡ row.id → fresh.name ≡ row.name → names_of_users (put_user users fresh) ≡ names_of_users users
names-rewritten [] row fresh rising found id name = absurd (omega (arith, found.1))
names-rewritten (first ∷ rest) row fresh rising found id name =
    ⊎_elim
    (λ is. ap names_of_users (put-here first fresh rest (ap (λ (r : UserRow). r.id) is ∙ sym id)) ∙ ap (λ n. n ∷ names_of_users rest) (name ∙ sym (ap (λ (r : UserRow). r.name) is)))
    (λ later.
    let low : first.id < row.id =
    All-contains (λ (r : UserRow). first.id < r.id) rest row (all_unmapped (λ n. first.id < n) rest (all_above first rest rising)) later in
    ap names_of_users (put-later first fresh rest (subst (λ n. first.id < n) (sym id) low))
    ∙ ap (λ names. first.name ∷ names) (names-rewritten rest row fresh (rising_rest first.id (ids_of_users rest) rising) later id name))
    (contains_cases first row rest found.0 found.1 found.2)

-- ---- a user who is added stands last

pub put-last : (users : List UserRow) (row : UserRow) → All (IsUserBefore row.id) users → put_user users row ≡ users ++ row ∷ []
put-last [] row before = refl
put-last (first ∷ rest) row before =
    put-later first row rest (All-head (IsUserBefore row.id) first rest before)
    ∙ ap (λ (rows : List UserRow). first ∷ rows) (put-last rest row (All-tail (IsUserBefore row.id) first rest before))

-- no user has the name, where none was found
other_first : (b : Bool) (first : UserRow) (name : List ℕ) (found : Option UserRow) → Decides b (first.name ≡ name) → is_some (if b then Some first else found) ≡ false
    → (first.name ≢ name) × (is_some found ≡ false)
other_first true first name found decides is = absurd (let wrong : true ≡ false = is in cc)
other_first false first name found decides is = (λ same. let wrong : false ≡ true = decides.1 same in cc, is)

names-other : (users : List UserRow) (name : List ℕ) → has_name users name ≡ false → All (λ (other : List ℕ). other ≢ name) (names_of_users users)
names-other [] name none = All-nil (λ (other : List ℕ). other ≢ name)
names-other (first ∷ rest) name none =
    let parts = other_first (bytes_eq first.name name) first name (user_named rest name) (bytes_eq-Decides first.name name) none in
    All-cons (λ (other : List ℕ). other ≢ name) first.name (names_of_users rest) parts.0 (names-other rest name parts.1)

names-added : (users : List UserRow) (held : Bool) (row : UserRow) → AreDifferent (names_of_users users) → All (IsUserBefore row.id) users
    → has_name users row.name ≡ held → AreDifferent (names_of_users (added users held row))
names-added users true row names before held = names
names-added users false row names before held =
    let others = names-other users row.name held in
    let pushed : AreDifferent (names_of_users users ++ row.name ∷ []) =
    all_pairs_push (λ a b. a ≢ b) (names_of_users users) row.name names (λ k d low. others k d low) in
    let same : names_of_users (put_user users row) ≡ names_of_users users ++ row.name ∷ [] =
    ap names_of_users (put-last users row before) ∙ map-append (λ (r : UserRow). r.name) users (row ∷ []) in
    subst AreDifferent (sym same) pushed

-- ---- no operation gives two users one name

names_if_rewritten : (users : List UserRow) (found : Option UserRow) (change : UserRow → UserRow)
    → ((row : UserRow) → (change row).id ≡ row.id) → ((row : UserRow) → (change row).name ≡ row.name)
    → ((row : UserRow) → found ≡ Some row → Contains users row) → IsStrictlyIncreasing (ids_of_users users)
    → names_of_users (rewritten users found change) ≡ names_of_users users
names_if_rewritten users None change id name within rising = refl
names_if_rewritten users (Some row) change id name within rising = names-rewritten users row (change row) rising (within row refl) (id row) (name row)

names_if_tested : (b : Bool) (users other : List UserRow) → names_of_users other ≡ names_of_users users → names_of_users (if b then other else users) ≡ names_of_users users
names_if_tested true users other same = same
names_if_tested false users other same = refl

names_if_repassworded : (users : List UserRow) (found : Option UserRow) (expected fresh : List ℕ) → ((row : UserRow) → found ≡ Some row → Contains users row)
    → IsStrictlyIncreasing (ids_of_users users) → names_of_users (repassworded users found expected fresh) ≡ names_of_users users
names_if_repassworded users None expected fresh within rising = refl
names_if_repassworded users (Some row) expected fresh within rising =
    names_if_tested (has_password expected row) users (put_user users (with_password fresh row))
    (names-rewritten users row (with_password fresh row) rising (within row refl) refl refl)

names_if_regrouped : (users : List UserRow) (found : Option UserRow) (group : Option ℕ) (member : Bool) → ((row : UserRow) → found ≡ Some row → Contains users row)
    → IsStrictlyIncreasing (ids_of_users users) → names_of_users (regrouped users found group member) ≡ names_of_users users
names_if_regrouped users None group member within rising = refl
names_if_regrouped users (Some row) None member within rising = refl
names_if_regrouped users (Some row) (Some group) member within rising =
    names-rewritten users row (with_membership group member row) rising (within row refl) refl refl

pub names_stay_different : NamesStayDifferent
names_stay_different (SetPassword user expected fresh) tables order =
    subst AreDifferent (sym (names_if_repassworded tables.users (user_of tables.users user) expected fresh (user_of-Contains tables.users user) order.users)) order.names
names_stay_different (SetLastLogin user now) tables order =
    subst AreDifferent
    (sym (names_if_rewritten tables.users (user_of tables.users user) (with_last_login now) (λ row. refl) (λ row. refl) (user_of-Contains tables.users user) order.users)) order.names
names_stay_different (AddUser name email password superuser) tables order =
    names-added tables.users (has_name tables.users name) _ order.names order.next_user refl
names_stay_different (SetActive name active) tables order =
    subst AreDifferent
    (sym (names_if_rewritten tables.users (user_named tables.users name) (with_active active) (λ row. refl) (λ row. refl) (user_named-Contains tables.users name) order.users)) order.names
names_stay_different (SetMembership name group member) tables order =
    subst AreDifferent (sym (names_if_regrouped tables.users (user_named tables.users name) _ member (user_named-Contains tables.users name) order.users)) order.names
names_stay_different Boot tables order = order.names
names_stay_different (Load cookie now) tables order = order.names
names_stay_different (Create key payload seconds now) tables order = order.names
names_stay_different (Save key payload seconds now) tables order = order.names
names_stay_different (Cycle old key payload seconds now) tables order = order.names
names_stay_different (Delete key) tables order = order.names
names_stay_different (ClearExpired now) tables order = order.names
names_stay_different (FindUser name) tables order = order.names
names_stay_different (Perms user) tables order = order.names
names_stay_different (RotateKey key) tables order = order.names
names_stay_different RetireKeys tables order = order.names
names_stay_different (MakeReset email now) tables order = order.names
names_stay_different (CheckReset user token now) tables order = order.names
names_stay_different TakeMail tables order = order.names
