-- What is looked at before the store is opened: what a command with this input line is refused for, where it is, in the
-- order of the refusals. The weaknesses of passwords are Django 4.2's; the order is this project's own.
use Rattle.std.specs.Prelude.{◌≡◌, ℕ, List, Option, None, Some}
use Rattle.ledger_rows.specs.Form.{IsEmail, IsUserName}
use Rattle.pass_hashers.specs.Weakness.{IsAllDigits, IsCommon, IsTooShort}
use Rattle.signing_core.specs.Keys.{HasKeyLength}
use Rattle.site_commands.specs.StoreCommand.{Administration, ToAddUser, ToChangePassword, ToClearSessions, ToRetireKeys, ToRotateKey, ToSetActive, ToSetMembership, ToTakeMails}
use Rattle.site_commands.specs.declared.refusal.Refusal.{Refusal}
use Rattle.site_commands.specs.declared.refusal.Refusal.TheVariants.{AllDigits, BadEmail, BadKey, BadName, Common, TooShort}

-- the first weakness that a new password has
abbrev pub IsPasswordFault : List ℕ → List (List ℕ) → Option Refusal → Type 0
IsPasswordFault password common None = (¬ IsTooShort password) × (¬ IsAllDigits password) × ¬ IsCommon password common
IsPasswordFault password common (Some TooShort) = IsTooShort password
IsPasswordFault password common (Some AllDigits) = (¬ IsTooShort password) × IsAllDigits password
IsPasswordFault password common (Some Common) = (¬ IsTooShort password) × (¬ IsAllDigits password) × IsCommon password common
IsPasswordFault password common (Some _) = ⊥

-- the name comes before the address, and the address before the password
abbrev pub IsNewUserFault : (name email password : List ℕ) → List (List ℕ) → Option Refusal → Type 0
IsNewUserFault name email password common (Some BadName) = ¬ IsUserName name
IsNewUserFault name email password common (Some BadEmail) = IsUserName name × ¬ IsEmail email
IsNewUserFault name email password common fault = IsUserName name × IsEmail email × IsPasswordFault password common fault

-- the name comes before the password
abbrev pub IsNewPasswordFault : (name password : List ℕ) → List (List ℕ) → Option Refusal → Type 0
IsNewPasswordFault name password common (Some BadName) = ¬ IsUserName name
IsNewPasswordFault name password common fault = IsUserName name × IsPasswordFault password common fault

abbrev pub IsNameFault : List ℕ → Option Refusal → Type 0
IsNameFault name None = IsUserName name
IsNameFault name (Some BadName) = ¬ IsUserName name
IsNameFault name (Some _) = ⊥

abbrev pub IsKeyFault : List ℕ → Option Refusal → Type 0
IsKeyFault key None = HasKeyLength key
IsKeyFault key (Some BadKey) = ¬ HasKeyLength key
IsKeyFault key (Some _) = ⊥

abbrev pub IsFault : Administration → List ℕ → List (List ℕ) → Option Refusal → Type 0
IsFault (ToAddUser name email superuser) line common fault = IsNewUserFault name email line common fault
IsFault (ToChangePassword name) line common fault = IsNewPasswordFault name line common fault
IsFault (ToSetActive name active) line common fault = IsNameFault name fault
IsFault (ToSetMembership name group member) line common fault = IsNameFault name fault
IsFault ToClearSessions line common fault = fault ≡ None
IsFault ToRotateKey line common fault = IsKeyFault line fault
IsFault ToRetireKeys line common fault = fault ≡ None
IsFault ToTakeMails line common fault = fault ≡ None
