-- A run, by what its words ask for.
use Rattle.std.proofs.Common.{◌≡◌, ◌⊎◌, ℕ, List, [], ◌∷◌, Option, Some, None, MatchOption, ap, inl, inr, refl, subst, sym, take, ◌∙◌}
use Rattle.std.specs.Prelude.{IfSome}
use Rattle.crypto_text.specs.Moment.{moment}
use Rattle.outside.specs.Clock.{GivesNext}
use Rattle.outside.specs.Devices.{HasEnded, Input}
use Rattle.outside.specs.Faults.{Rose}
use Rattle.outside.specs.declared.seed.SeedFault.{SeedFault}
use Rattle.outside.specs.declared.seed.SeedFault.TheVariants.{TooShort, Unread}
use Rattle.site_file.specs.SiteFile.{IsSiteOf, Site}
use Rattle.site_file.specs.declared.settings.SettingsAll.{SettingsAll}
use Rattle.site_server.specs.Command.{Asked, IsSigned, asked_by_command, asked_of, signed_line, usage_line}
use Rattle.site_server.specs.ManageSite.{IsAnswered, IsQuiet, IsRefused, IsSettingsUnread, IsUnseeded, Runs, RunsCommand, RunsSite, World}
use Rattle.site_server.specs.Sending.{IsSent}
use Rattle.site_server.specs.declared.command.Command.{Command}
use Rattle.site_server.specs.declared.status.Status.{Status}
use Rattle.site_server.specs.declared.status.Status.TheVariants.{Done, Memory, ReadFault, Usage}

-- words that ask for nothing
pub runs_usage : (words items : List (List ℕ)) (found left : Input) (before after : World) (status : Status)
    → items ≡ words → asked_of items ≡ None → IsRefused usage_line Usage before after status → Runs (asked_of words) found left before after status
runs_usage words items found left before after status same is refused =
    subst (λ (asked : Option Asked). Runs asked found left before after status) (sym is ∙ ap asked_of same) refused

-- words that ask for a command
pub runs_asked : (words items : List (List ℕ)) (asked : Asked) (found left : Input) (before after : World) (status : Status)
    → items ≡ words → asked_of items ≡ Some asked
    → IsSettingsUnread found left before after status
    ⊎ ((site : Site) × IfSome found.left (λ bytes. IsSiteOf (take 4194305 bytes) site) × RunsSite asked site before after status)
    → Runs (asked_of words) found left before after status
runs_asked words items asked found left before after status same is run =
    subst (λ (a : Option Asked). Runs a found left before after status) (sym is ∙ ap asked_of same) run

pub runs_command : (command : Command) (asked : Asked) (site : SettingsAll) (before after : World) (status : Status)
    → asked_by_command command ≡ asked → RunsCommand asked site before after status → RunsCommand (asked_by_command command) site before after status
runs_command command asked site before after status is run = subst (λ (a : Asked). RunsCommand a site before after status) (sym is) run

pub runs_signing : (keys : List (List ℕ)) (salt value : List ℕ) (before after : World) (status : Status)
    → (reading : ℕ) × GivesNext before.devices.clock after.devices.clock (reading ∷ [])
    × (IsSent (signed_line keys salt value (moment reading)) Done before.devices.output after.devices.output status
    ⊎ ((status ≡ Memory) × (after.devices.output ≡ before.devices.output)))
    → after.devices.input ≡ before.devices.input → after.devices.words ≡ before.devices.words → after.kept ≡ before.kept
    → IsAnswered (IsSigned keys salt value) before after status
runs_signing keys salt value before after status (reading, clock, inl sent) input words kept = record {
  reading = reading;
  clock = clock;
  written = inl (signed_line keys salt value (moment reading), Done, (refl, refl), sent);
  input = input;
  words = words;
  kept = kept;
}
runs_signing keys salt value before after status (reading, clock, inr none) input words kept = record {
  reading = reading;
  clock = clock;
  written = inr none;
  input = input;
  words = words;
  kept = kept;
}

-- ---- without a seed

pub seed_cause : (fault : SeedFault) (found left : Input) → (fault ≡ Unread → Rose found.faults left.faults) → (fault ≡ TooShort → HasEnded left)
    → Rose found.faults left.faults ⊎ HasEnded left
seed_cause Unread found left rose ended = inl (rose refl)
seed_cause TooShort found left rose ended = inr (ended refl)

pub runs_unseeded : (asked : Option Asked) (found left : Input) (before after : World) (status : Status)
    → MatchOption asked (IsSent usage_line Usage before.devices.output after.devices.output status) (λ a. (status ≡ ReadFault) × (after.devices.output ≡ before.devices.output))
    → Rose found.faults left.faults ⊎ HasEnded left → IsQuiet before after → IsUnseeded asked found left before after status
runs_unseeded None found left before after status said cause quiet = record { sent = said; quiet = quiet }
runs_unseeded (Some asked) found left before after status said cause quiet = (said.0, cause, record { quiet = quiet; output = said.1 })
