-- What a command does to the store, by its words, its input line, its random words and its moment.
use Rattle.std.specs.Prelude.{ℕ, List}
use Rattle.pass_hashers.specs.PasswordText.{password_text}
use Rattle.pass_hashers.specs.declared.hasher.Hasher.{Hasher}
use Rattle.account_views.specs.RandomTexts.{new_salt}
use Rattle.site_commands.specs.StoreCommand.{Administration, ToAddUser, ToChangePassword, ToClearSessions, ToRetireKeys, ToRotateKey, ToSetActive, ToSetMembership, ToTakeMails}
use Rattle.site_commands.specs.declared.task.Task.{Task}
use Rattle.site_commands.specs.declared.task.Task.TheVariants as tasks

-- the text of a new password, made by the preferred hasher with a salt of random words
abbrev pub fresh_text : Hasher → List ℕ → List ℕ → List ℕ
fresh_text preferred password draw = password_text preferred password (new_salt draw)

abbrev pub task : Administration → List ℕ → Hasher → List ℕ → ℕ → Task
task (ToAddUser name email superuser) line preferred draw now = tasks.AddUser name email (fresh_text preferred line draw) superuser
task (ToChangePassword name) line preferred draw now = tasks.ChangePassword name (fresh_text preferred line draw)
task (ToSetActive name active) line preferred draw now = tasks.SetActive name active
task (ToSetMembership name group member) line preferred draw now = tasks.SetMembership name group member
task ToClearSessions line preferred draw now = tasks.ClearSessions now
task ToRotateKey line preferred draw now = tasks.RotateKey line
task ToRetireKeys line preferred draw now = tasks.RetireKeys
task ToTakeMails line preferred draw now = tasks.TakeMails
