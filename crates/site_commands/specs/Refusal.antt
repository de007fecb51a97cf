-- Why a command is refused, and the line that says so. This project's own.
use Rattle.std.specs.Prelude.{ℕ, List, ◌++◌, codes}
use Rattle.site_commands.specs.declared.refusal.Refusal.{Refusal}
use Rattle.site_commands.specs.declared.refusal.Refusal.TheVariants.{AllDigits, BadEmail, BadKey, BadLine, BadName, ChangedMeanwhile, Common, KeyHeld, NameTaken, NoGroup, NoUser, TooManyKeys, TooShort}

abbrev pub code_of : Refusal → List ℕ
code_of BadLine = codes "bad-line"
code_of BadName = codes "bad-name"
code_of BadEmail = codes "bad-email"
code_of TooShort = codes "too-short"
code_of AllDigits = codes "all-digits"
code_of Common = codes "common"
code_of BadKey = codes "bad-key"
code_of NameTaken = codes "name-taken"
code_of NoUser = codes "no-user"
code_of NoGroup = codes "no-group"
code_of ChangedMeanwhile = codes "changed-meanwhile"
code_of KeyHeld = codes "key-held"
code_of TooManyKeys = codes "too-many-keys"

-- what is written where a command is refused with a code
unfoldable pub refused_line : List ℕ → List ℕ
refused_line code = codes "refused=" ++ code ++ codes "\n"
