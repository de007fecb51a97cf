-- What holds of every command's script.
use Rattle.std.specs.Prelude.{◌≢◌, ◌≤◌, ◌<◌, ◌^◌, ℕ, List, All, None, length}
use Rattle.crypto_text.specs.Moment.{IsMoment}
use Rattle.pass_hashers.specs.PasswordText.{IsUsable}
use Rattle.pass_hashers.specs.declared.hasher.Hasher.{Hasher}
use Rattle.account_views.specs.Walk.{AtMost}
use Rattle.site_commands.specs.Checking.{IsFault}
use Rattle.site_commands.specs.CommandScript.{script}
use Rattle.site_commands.specs.StoreCommand.{Administration}
use Rattle.site_commands.specs.Task.{task}
use Rattle.site_commands.specs.Walk.{IsProper, IsTask}
use Rattle.site_commands.specs.declared.task.Task.{Task}
use Rattle.site_commands.specs.declared.task.Task.TheVariants.{TakeMails}

-- but for `outbox`, which takes one mail after another
abbrev pub StepsAreFew : Type 0
StepsAreFew = (todo : Task) → todo ≢ TakeMails → AtMost 2 (script todo)

abbrev pub StepsAreProper : Type 0
StepsAreProper = (todo : Task) → IsTask todo → IsProper (script todo)

-- a command that isn't refused before the store is opened, at a moment, with 1,024 random words and a usable hasher
abbrev pub TasksAreProper : Type 0
TasksAreProper =
    (asked : Administration) (line : List ℕ) (common : List (List ℕ)) (preferred : Hasher) (draw : List ℕ) (now : ℕ)
    → IsFault asked line common None → IsUsable preferred → All (λ word. word < 2 ^ 32) draw → 1024 ≤ length draw → IsMoment now
    → IsTask (task asked line preferred draw now)
