-- What a start of the program over a store does, and what it enters.
use Rattle.std.specs.Prelude.{◌≡◌, ◌≤◌, ◌+◌, ◌^◌, ◌⊎◌, ℕ, List, []}
use Rattle.outside.specs.Faults.{Rose}
use Rattle.ledger_rows.specs.Rows.{IsNumber}
use Rattle.ledger_rows.specs.History.{IsLegal}
use Rattle.ledger_rows.specs.declared.rows.Cfg.{Cfg}
use Rattle.ledger_rows.specs.declared.rows.Engine.{Engine}
use Rattle.ledger_rows.specs.declared.rows.Opening.{Opening}
use Rattle.ledger_rows.specs.declared.rows.SessionRow.{SessionRow}
use Rattle.ledger_rows.specs.declared.operation.Op.TheVariants.{Boot}
use Rattle.ledger_rows.specs.declared.entry.Entry.{Entry}
use Rattle.keepers.specs.Keeper.{Contents, Kept, OnHolding, Report, installed}
use Rattle.session_engines.specs.Ledger.{HasRoom, IsShort, LedgerView, kept_after, state_of}
use Rattle.session_engines.specs.declared.open_fault.StartFault.{StartFault}
use Rattle.session_engines.specs.declared.open_fault.StartFault.TheVariants.{Keeper, Full, Memory}

-- the entry of a start
abbrev pub boot_entry : ℕ → Entry
boot_entry boot = record { tag = record { boot = boot; worker = 0; request = 0; step = 0 }; op = Boot }

-- a keeper that holds its opening rows if it was new
abbrev pub ready : Opening → Kept → Kept
ready opening kept = record kept { report = installed opening kept.report }

-- a start was entered under this number, one more than the starts before
pub record HasStarted (opening : Opening) (engine : Engine) (old : Kept) (start : ℕ) (new : Kept) : Type 0 where
  pub room : HasRoom old
  pub number : IsNumber start
  pub boot : OnHolding (installed opening old.report) (λ contents. start ≡ contents.tables.boot + 1)
  pub kept : new ≡ kept_after engine (boot_entry start) (ready opening old)

-- a store was opened
pub record HasOpened (opening : Opening) (site : Cfg) (old : Kept) (ledger : LedgerView) : Type 0 where
  pub started : HasStarted opening site.engine old ledger.boot ledger.kept
  pub cfg : ledger.cfg ≡ site
  pub cache : ledger.cache ≡ []

-- the starts can't be numbered further
abbrev pub HasLastBoot : Report → Type 0
HasLastBoot report = OnHolding report (λ contents. 2 ^ 62 ≤ contents.tables.boot + 1)

-- no start was entered: what is reported is as it was, or a new store holds its opening rows
pub record IsUnstarted (opening : Opening) (old new : Kept) : Type 0 where
  pub report : (new.report ≡ old.report) ⊎ (new.report ≡ installed opening old.report)
  pub entries : new.entry_count ≡ old.entry_count

-- the store failed
pub record HasFailedStart (old new : Kept) : Type 0 where
  pub room : HasRoom old
  pub rose : Rose old.faults new.faults

-- the audit list is full, or the numbers of starts have run out
pub record IsFullStart (opening : Opening) (old new : Kept) : Type 0 where
  pub full : (2 ^ 62 ≤ old.entry_count) ⊎ HasLastBoot (installed opening old.report)
  pub faults : new.faults ≡ old.faults

-- why a start was refused
abbrev pub HasStartCause : Opening → Kept → Kept → StartFault → Type 0
HasStartCause opening old new Keeper = HasFailedStart old new
HasStartCause opening old new Full = IsFullStart opening old new
HasStartCause opening old new Memory = IsShort old new

-- no start was entered
pub record IsRefusedStart (opening : Opening) (old new : Kept) (fault : StartFault) : Type 0 where
  pub cause : HasStartCause opening old new fault
  pub unstarted : IsUnstarted opening old new

-- the entries that a store was found with are a legal history with its tables, the rows of a cache aside
pub record WasLegal (engine : Engine) (contents : Contents) : Type 0 where
  pub cache : List SessionRow
  pub legal : IsLegal engine contents.opening contents.entries (state_of contents cache)
