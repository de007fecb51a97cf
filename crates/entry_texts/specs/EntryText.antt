-- The text of an entry of the audit list. This project's own.
use Rattle.std.specs.Prelude.{◌≡◌, ℕ, ⊤, List, [], ◌∷◌, ◌++◌, Option, None, Some, codes}
use Rattle.hex.specs.Hex.{IsBytes, encode_lower}
use Rattle.serde_json.specs.Data.{Data, null, boolean, number, string, array, unsigned}
use Rattle.serde_json.specs.View.{items_of}
use Rattle.ascii_json.specs.AsciiJson.{json_of}
use Rattle.ascii_json.specs.Representable.{IsRepresentable}
use Rattle.ledger_rows.specs.Step.{IsOperation}
use Rattle.ledger_rows.specs.declared.entry.Entry.{Entry}
use Rattle.ledger_rows.specs.declared.entry.Tag.{Tag}
use Rattle.ledger_rows.specs.declared.operation.Op.{Op}
use Rattle.ledger_rows.specs.declared.operation.Op.TheVariants.{AddUser, Boot, CheckReset, ClearExpired, Create, Cycle, Delete, FindUser, Load, MakeReset, Perms, RetireKeys, RotateKey, Save, SetActive, SetLastLogin, SetMembership, SetPassword, TakeMail}

abbrev pub number_data : ℕ → Data
number_data n = number (unsigned n)

-- a cookie, or `null` for none
abbrev pub cookie_data : Option (List ℕ) → Data
cookie_data None = null
cookie_data (Some cookie) = string cookie

-- the bytes of a key in lower case hexadecimal
abbrev pub key_data : List ℕ → Data
key_data key = string (encode_lower key)

-- the version of this form, and who did the step
abbrev pub head_of : Tag → List Data
head_of tag = number_data 1 ∷ number_data tag.boot ∷ number_data tag.worker ∷ number_data tag.request ∷ number_data tag.step ∷ []

-- an operation's name, and its fields in the order in which they are declared
abbrev pub parts_of : Op → List Data
parts_of Boot = string (codes "Boot") ∷ []
parts_of (Load cookie now) = string (codes "Load") ∷ cookie_data cookie ∷ number_data now ∷ []
parts_of (Create key payload seconds now) = string (codes "Create") ∷ string key ∷ string payload ∷ number_data seconds ∷ number_data now ∷ []
parts_of (Save key payload seconds now) = string (codes "Save") ∷ string key ∷ string payload ∷ number_data seconds ∷ number_data now ∷ []
parts_of (Cycle old key payload seconds now) =
    string (codes "Cycle") ∷ string old ∷ string key ∷ string payload ∷ number_data seconds ∷ number_data now ∷ []
parts_of (Delete key) = string (codes "Delete") ∷ string key ∷ []
parts_of (ClearExpired now) = string (codes "ClearExpired") ∷ number_data now ∷ []
parts_of (FindUser name) = string (codes "FindUser") ∷ string name ∷ []
parts_of (SetPassword user expected fresh) = string (codes "SetPassword") ∷ number_data user ∷ string expected ∷ string fresh ∷ []
parts_of (SetLastLogin user now) = string (codes "SetLastLogin") ∷ number_data user ∷ number_data now ∷ []
parts_of (AddUser name email password superuser) = string (codes "AddUser") ∷ string name ∷ string email ∷ string password ∷ boolean superuser ∷ []
parts_of (SetActive name active) = string (codes "SetActive") ∷ string name ∷ boolean active ∷ []
parts_of (SetMembership name group member) = string (codes "SetMembership") ∷ string name ∷ string group ∷ boolean member ∷ []
parts_of (Perms user) = string (codes "Perms") ∷ number_data user ∷ []
parts_of (RotateKey key) = string (codes "RotateKey") ∷ key_data key ∷ []
parts_of RetireKeys = string (codes "RetireKeys") ∷ []
parts_of (MakeReset email now) = string (codes "MakeReset") ∷ string email ∷ number_data now ∷ []
parts_of (CheckReset user token now) = string (codes "CheckReset") ∷ number_data user ∷ string token ∷ number_data now ∷ []
parts_of TakeMail = string (codes "TakeMail") ∷ []

-- the array of an entry
abbrev pub data_of : Entry → Data
data_of entry = array (items_of (head_of entry.tag ++ parts_of entry.op))

-- the text of an entry: one line of JSON in ASCII, without spaces
abbrev pub text_of_entry : Entry → List ℕ
text_of_entry entry = json_of (data_of entry)

-- what a key is made of are bytes
abbrev pub HasKeyBytes : Op → Type 0
HasKeyBytes (RotateKey key) = IsBytes key
HasKeyBytes _ = ⊤

-- what memory holds of an entry: numbers below 2^64, texts in UTF-8, keys of bytes
pub record IsWritable (entry : Entry) : Type 0 where
  pub values : IsRepresentable (data_of entry)
  pub key : HasKeyBytes entry.op

-- the text is that of this entry, whose operation may be done
pub record IsEntryText (text : List ℕ) (entry : Entry) : Type 0 where
  pub writable : IsWritable entry
  pub operation : IsOperation entry.op
  pub says : text ≡ text_of_entry entry
