-- The steps of commands: what may be asked of the store.
use Rattle.std.specs.Prelude.{ℕ, List}
use Rattle.crypto_text.specs.Moment.{IsMoment}
use Rattle.pass_hashers.specs.PasswordText.{IsPasswordText}
use Rattle.signing_core.specs.Keys.{HasKeyLength}
use Rattle.ledger_rows.specs.Form.{IsEmail, IsUserName}
use Rattle.ledger_rows.specs.Step.{IsNewUser, IsOperation}
use Rattle.ledger_rows.specs.declared.operation.Op.{Op}
use Rattle.ledger_rows.specs.declared.operation.Op.TheVariants.{AddUser, ClearExpired, FindUser, RetireKeys, RotateKey, SetActive, SetMembership, SetPassword, TakeMail}
use Rattle.ledger_rows.specs.declared.reply.Reply.{Reply}
use Rattle.account_views.specs.Script.{Steps, Return, Ask}
use Rattle.site_commands.specs.declared.said.Said.{Said}
use Rattle.site_commands.specs.declared.task.Task.{Task}
use Rattle.site_commands.specs.declared.task.Task.TheVariants as tasks

-- the operations of commands: none is a start, a load or a change of one session
abbrev pub IsAdministrative : Op → Type 0
IsAdministrative (ClearExpired now) = Unit {0}
IsAdministrative (FindUser name) = Unit {0}
IsAdministrative (SetPassword user expected fresh) = Unit {0}
IsAdministrative (AddUser name email password superuser) = Unit {0}
IsAdministrative (SetActive name active) = Unit {0}
IsAdministrative (SetMembership name group member) = Unit {0}
IsAdministrative (RotateKey key) = Unit {0}
IsAdministrative RetireKeys = Unit {0}
IsAdministrative TakeMail = Unit {0}
IsAdministrative _ = ⊥

-- each step that is asked for may be done and is one of a command, whatever replies came to those before
abbrev pub IsProper : Steps Said → Type 0
IsProper (Return said) = Unit {0}
IsProper (Ask op rest) = IsOperation op × IsAdministrative op × ((reply : Reply) → IsProper (rest reply))

-- the texts and numbers of a task are well formed
abbrev pub IsTask : Task → Type 0
IsTask (tasks.AddUser name email password superuser) = IsNewUser name email password
IsTask (tasks.ChangePassword name fresh) = IsUserName name × IsPasswordText fresh
IsTask (tasks.SetActive name active) = IsUserName name
IsTask (tasks.SetMembership name group member) = IsUserName name
IsTask (tasks.ClearSessions now) = IsMoment now
IsTask (tasks.RotateKey key) = HasKeyLength key
IsTask tasks.RetireKeys = Unit {0}
IsTask tasks.TakeMails = Unit {0}
