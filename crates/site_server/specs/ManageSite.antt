-- What a run of the program does, from its words on. The commands, lines and statuses are this project's own.
use Rattle.std.specs.Prelude.{◌≡◌, ◌≤◌, ◌⊎◌, ℕ, List, [], ◌∷◌, ◌++◌, Option, None, Some, IfSome, All, codes, decimal, length, take}
use Rattle.crypto_text.specs.Moment.{moment}
use Rattle.outside.specs.Clock.{GivesNext}
use Rattle.outside.specs.Devices.{HasEnded, HasRead, Input}
use Rattle.outside.specs.Faults.{Rose}
use Rattle.outside.specs.RandomWords.{RandomWords}
use Rattle.rand_chacha.specs.ChaCha.{word_at as chacha_word_at, key_of}
use Rattle.ledger_rows.specs.declared.entry.Entry.{Entry}
use Rattle.ledger_rows.specs.declared.rows.Opening.{Opening}
use Rattle.keepers.specs.Keeper.{Kept, OnHolding}
use Rattle.session_engines.specs.Ledger.{IsSoundLedger, LedgerView}
use Rattle.session_engines.specs.Start.{HasOpened, IsRefusedStart, WasLegal}
use Rattle.session_engines.specs.declared.open_fault.StartFault.{StartFault}
use Rattle.site_file.specs.SiteFile.{IsSiteOf, Site, Says, Wrong}
use Rattle.site_file.specs.declared.settings.SettingsAll.{SettingsAll}
use Rattle.middleware_chain.specs.Page.{line}
use Rattle.site_server.specs.Command.{Asked, IsSigned, IsUnsigned, Pipe, Sign, Unsign, usage_line}
use Rattle.site_server.specs.ExitStatus.{start_status, status_of}
use Rattle.site_server.specs.OneWorker.{Devices, Serves}
use Rattle.site_server.specs.OwnLedger.{HaveTurned}
use Rattle.site_server.specs.Sending.{IsSent}
use Rattle.site_server.specs.declared.connection.Report.{Report}
use Rattle.site_server.specs.declared.status.Status.{Status}
use Rattle.site_server.specs.declared.status.Status.TheVariants.{BadSettings, Memory, ReadFault, Usage}

-- what a run has to do with, beside its settings file: the devices, and what the store shows
pub record World : Type 0 where
  pub devices : Devices
  pub kept : Kept

abbrev pub run_world : Devices → Kept → World
run_world devices kept = record { devices = devices; kept = kept }

-- what is written where a field of the settings isn't well formed
abbrev pub settings_line : ℕ → List ℕ
settings_line field = codes "settings=" ++ line (decimal field)

-- nothing was read, drawn or asked of the store, and the output is this
pub record IsQuiet (before after : World) : Type 0 where
  pub input : after.devices.input ≡ before.devices.input
  pub clock : after.devices.clock ≡ before.devices.clock
  pub words : after.devices.words ≡ before.devices.words
  pub kept : after.kept ≡ before.kept

-- nothing at all was done
pub record IsUntouched (before after : World) : Type 0 where
  pub quiet : IsQuiet before after
  pub output : after.devices.output ≡ before.devices.output

-- one line was written, and nothing else was done
pub record IsRefused (due : List ℕ) (end : Status) (before after : World) (status : Status) : Type 0 where
  pub sent : IsSent due end before.devices.output after.devices.output status
  pub quiet : IsQuiet before after

-- the settings couldn't be read
pub record IsSettingsUnread (found left : Input) (before after : World) (status : Status) : Type 0 where
  pub cause : ((status ≡ ReadFault) × Rose found.faults left.faults) ⊎ (status ≡ Memory)
  pub untouched : IsUntouched before after

-- the store couldn't be opened, or memory was out before; the opening rows of a new one may be in it
pub record IsNotOpened (opening : Opening) (before after : World) (status : Status) : Type 0 where
  pub cause : ((fault : StartFault) × IsRefusedStart opening before.kept after.kept fault × (status ≡ start_status fault))
      ⊎ ((status ≡ Memory) × (after.kept ≡ before.kept))
  pub devices : after.devices ≡ before.devices

-- the store was opened, and then one connection was served by the first worker. The ledger was sound where the audit list
-- that was found was legal, or the store was new, and then it is still
pub record IsOpened (site : SettingsAll) (before after : World) (status : Status) : Type 0 where
  pub opened : LedgerView
  pub started : HasOpened site.opening site.settings.cfg before.kept opened
  pub sound : OnHolding before.kept.report (WasLegal site.settings.cfg.engine) → IsSoundLedger opened
  pub left : LedgerView
  pub report : Report
  pub status_is : status ≡ status_of report.end
  pub serves : Serves site.settings (record { boot = opened.boot; worker = 1 }) 1 before.devices after.devices (λ turns. HaveTurned turns opened left) report
  pub kept : after.kept ≡ left.kept

-- a command that doesn't touch the store: one reading of the clock was taken, and what is due at its moment was written,
-- or memory was out and nothing was
pub record IsAnswered (IsDue : ℕ → List ℕ → Status → Type 0) (before after : World) (status : Status) : Type 0 where
  pub reading : ℕ
  pub clock : GivesNext before.devices.clock after.devices.clock (reading ∷ [])
  pub written :
      ((due : List ℕ) × (end : Status) × IsDue (moment reading) due end × IsSent due end before.devices.output after.devices.output status)
      ⊎ ((status ≡ Memory) × (after.devices.output ≡ before.devices.output))
  pub input : after.devices.input ≡ before.devices.input
  pub words : after.devices.words ≡ before.devices.words
  pub kept : after.kept ≡ before.kept

-- a run of a command over a site
abbrev pub RunsCommand : Asked → SettingsAll → World → World → Status → Type 0
RunsCommand Pipe site before after status = IsNotOpened site.opening before after status ⊎ IsOpened site before after status
RunsCommand (Sign salt value) site before after status = IsAnswered (IsSigned site.opening.keys salt value) before after status
RunsCommand (Unsign salt max_age text) site before after status = IsAnswered (IsUnsigned site.opening.keys salt max_age text) before after status

-- a run of a command, by what the settings file says
abbrev pub RunsSite : Asked → Site → World → World → Status → Type 0
RunsSite asked (Wrong field) before after status =
    IsRefused (settings_line field) BadSettings before after status ⊎ ((status ≡ Memory) × IsUntouched before after)
RunsSite asked (Says site) before after status = RunsCommand asked site before after status

-- a run of the words, from the settings file on: it couldn't be read, or it says something
abbrev pub Runs : Option Asked → Input → Input → World → World → Status → Type 0
Runs None found left before after status = IsRefused usage_line Usage before after status
Runs (Some asked) found left before after status =
    IsSettingsUnread found left before after status
    ⊎ ((site : Site) × IfSome found.left (λ bytes. IsSiteOf (take 4194305 bytes) site) × RunsSite asked site before after status)

-- the boot in each entry's tag is at most that of the tables, where they are reported
abbrev pub HasKnownBoots : Kept → Type 0
HasKnownBoots kept = OnHolding kept.report (λ contents. All (λ (entry : Entry). entry.tag.boot ≤ contents.tables.boot) contents.entries)

-- random words are those of a seed, from the first on
abbrev pub seeded_words : List ℕ → RandomWords
seeded_words seed = record { position = 0; word_at = chacha_word_at 10 (key_of seed) 0 }

-- without a seed no random word is drawn: words that are no command are refused as ever, and a command ends as one whose
-- settings can't be read
abbrev pub IsUnseeded : Option Asked → Input → Input → World → World → Status → Type 0
IsUnseeded None found left before after status = IsRefused usage_line Usage before after status
IsUnseeded (Some asked) found left before after status =
    (status ≡ ReadFault) × (Rose found.faults left.faults ⊎ HasEnded left) × IsUntouched before after

-- a run whose random words are those of the 32 bytes that a source of seeds gives, by what it draws of them
abbrev pub RunsSeeded : Option Asked → Input → Input → Input → Input → (RandomWords → World) → (RandomWords → World) → Status → Type 0
RunsSeeded asked seed_found seed_left settings_found settings_left before after status =
    ((seed : List ℕ) × (length seed ≡ 32) × HasRead seed_found seed_left seed
    × ((words : RandomWords) × Runs asked settings_found settings_left (before (seeded_words seed)) (after words) status))
    ⊎ ((settings_left ≡ settings_found) × ((words : RandomWords) → IsUnseeded asked seed_found seed_left (before words) (after words) status))
