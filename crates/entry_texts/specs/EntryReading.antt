-- The way back from a text to its entry. The law `WrittenEntryReadsBack` says that it is one.
use Rattle.std.specs.Prelude.{ℕ, Bool, List, Option, None, Some, bytes_eq, codes, if◌then◌else◌}
use Rattle.std.specs.Result.{result_ok}
use Rattle.hex.specs.Hex.{decode_of}
use Rattle.serde_json.specs.Data.{Data, null, boolean, number, string, array, object}
use Rattle.serde_json.specs.Find.{as_bool, as_number, as_str, as_u64, at}
use Rattle.serde_json.specs.Read.{read}
use Rattle.ledger_rows.specs.declared.entry.Entry.{Entry}
use Rattle.ledger_rows.specs.declared.entry.Tag.{Tag}
use Rattle.ledger_rows.specs.declared.operation.Op.{Op}
use Rattle.ledger_rows.specs.declared.operation.Op.TheVariants.{AddUser, Boot, CheckReset, ClearExpired, Create, Cycle, Delete, FindUser, Load, MakeReset, Perms, RetireKeys, RotateKey, Save, SetActive, SetLastLogin, SetMembership, SetPassword, TakeMail}

-- the second step, where the first gave something
infixl 10 ◌>>=◌
abbrev pub ◌>>=◌ : {A B : Type 0} → Option A → (A → Option B) → Option B
Some x >>= f = f x
None >>= f = None

-- ---- the item at an index of an entry's array

abbrev pub number_at : ℕ → Data → Option ℕ
number_at index entry = at index entry >>= as_number >>= as_u64

abbrev pub text_at : ℕ → Data → Option (List ℕ)
text_at index entry = at index entry >>= as_str

abbrev pub flag_at : ℕ → Data → Option Bool
flag_at index entry = at index entry >>= as_bool

-- a text, or `null` for none
abbrev pub as_cookie : Data → Option (Option (List ℕ))
as_cookie null = Some None
as_cookie (boolean b) = None
as_cookie (number n) = None
as_cookie (string s) = Some (Some s)
as_cookie (array ds) = None
as_cookie (object ms) = None

abbrev pub cookie_at : ℕ → Data → Option (Option (List ℕ))
cookie_at index entry = at index entry >>= as_cookie

-- the bytes whose hexadecimal a text is, in either case
abbrev pub bytes_in : List ℕ → Option (List ℕ)
bytes_in text = result_ok (decode_of text)

abbrev pub key_bytes_at : ℕ → Data → Option (List ℕ)
key_bytes_at index entry = text_at index entry >>= bytes_in

-- ---- who did the step: after the version at index 0

abbrev pub tag_in : Data → Option Tag
tag_in entry = do
  boot ← number_at 1 entry
  worker ← number_at 2 entry
  request ← number_at 3 entry
  step ← number_at 4 entry
  Some (record { boot = boot; worker = worker; request = request; step = step })

-- ---- the operations: their fields come after the name at index 5

abbrev pub load_in : Data → Option Op
load_in entry = do
  cookie ← cookie_at 6 entry
  now ← number_at 7 entry
  Some (Load cookie now)

abbrev pub create_in : Data → Option Op
create_in entry = do
  key ← text_at 6 entry
  payload ← text_at 7 entry
  seconds ← number_at 8 entry
  now ← number_at 9 entry
  Some (Create key payload seconds now)

abbrev pub save_in : Data → Option Op
save_in entry = do
  key ← text_at 6 entry
  payload ← text_at 7 entry
  seconds ← number_at 8 entry
  now ← number_at 9 entry
  Some (Save key payload seconds now)

abbrev pub cycle_in : Data → Option Op
cycle_in entry = do
  old ← text_at 6 entry
  key ← text_at 7 entry
  payload ← text_at 8 entry
  seconds ← number_at 9 entry
  now ← number_at 10 entry
  Some (Cycle old key payload seconds now)

abbrev pub delete_in : Data → Option Op
delete_in entry = do
  key ← text_at 6 entry
  Some (Delete key)

abbrev pub clear_expired_in : Data → Option Op
clear_expired_in entry = do
  now ← number_at 6 entry
  Some (ClearExpired now)

abbrev pub find_user_in : Data → Option Op
find_user_in entry = do
  name ← text_at 6 entry
  Some (FindUser name)

abbrev pub set_password_in : Data → Option Op
set_password_in entry = do
  user ← number_at 6 entry
  expected ← text_at 7 entry
  fresh ← text_at 8 entry
  Some (SetPassword user expected fresh)

abbrev pub set_last_login_in : Data → Option Op
set_last_login_in entry = do
  user ← number_at 6 entry
  now ← number_at 7 entry
  Some (SetLastLogin user now)

abbrev pub add_user_in : Data → Option Op
add_user_in entry = do
  name ← text_at 6 entry
  email ← text_at 7 entry
  password ← text_at 8 entry
  superuser ← flag_at 9 entry
  Some (AddUser name email password superuser)

abbrev pub set_active_in : Data → Option Op
set_active_in entry = do
  name ← text_at 6 entry
  active ← flag_at 7 entry
  Some (SetActive name active)

abbrev pub set_membership_in : Data → Option Op
set_membership_in entry = do
  name ← text_at 6 entry
  group ← text_at 7 entry
  member ← flag_at 8 entry
  Some (SetMembership name group member)

abbrev pub perms_in : Data → Option Op
perms_in entry = do
  user ← number_at 6 entry
  Some (Perms user)

abbrev pub rotate_key_in : Data → Option Op
rotate_key_in entry = do
  key ← key_bytes_at 6 entry
  Some (RotateKey key)

abbrev pub make_reset_in : Data → Option Op
make_reset_in entry = do
  email ← text_at 6 entry
  now ← number_at 7 entry
  Some (MakeReset email now)

abbrev pub check_reset_in : Data → Option Op
check_reset_in entry = do
  user ← number_at 6 entry
  token ← text_at 7 entry
  now ← number_at 8 entry
  Some (CheckReset user token now)

-- the operation of a name
abbrev pub op_named : List ℕ → Data → Option Op
op_named name entry =
    if bytes_eq name (codes "Boot") then Some Boot else
    if bytes_eq name (codes "Load") then load_in entry else
    if bytes_eq name (codes "Create") then create_in entry else
    if bytes_eq name (codes "Save") then save_in entry else
    if bytes_eq name (codes "Cycle") then cycle_in entry else
    if bytes_eq name (codes "Delete") then delete_in entry else
    if bytes_eq name (codes "ClearExpired") then clear_expired_in entry else
    if bytes_eq name (codes "FindUser") then find_user_in entry else
    if bytes_eq name (codes "SetPassword") then set_password_in entry else
    if bytes_eq name (codes "SetLastLogin") then set_last_login_in entry else
    if bytes_eq name (codes "AddUser") then add_user_in entry else
    if bytes_eq name (codes "SetActive") then set_active_in entry else
    if bytes_eq name (codes "SetMembership") then set_membership_in entry else
    if bytes_eq name (codes "Perms") then perms_in entry else
    if bytes_eq name (codes "RotateKey") then rotate_key_in entry else
    if bytes_eq name (codes "RetireKeys") then Some RetireKeys else
    if bytes_eq name (codes "MakeReset") then make_reset_in entry else
    if bytes_eq name (codes "CheckReset") then check_reset_in entry else
    if bytes_eq name (codes "TakeMail") then Some TakeMail else
    None

abbrev pub op_in : Data → Option Op
op_in entry = do
  name ← text_at 5 entry
  op_named name entry

-- the entry of an array, which may have another version and more items than that entry's own
abbrev pub entry_in : Data → Option Entry
entry_in entry = do
  tag ← tag_in entry
  op ← op_in entry
  Some (record { tag = tag; op = op })

-- the entry of a text
abbrev pub entry_of : List ℕ → Option Entry
entry_of text = read text >>= entry_in
