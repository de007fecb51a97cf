-- What the turns of a worker did to a ledger that nobody else uses.
use Rattle.std.specs.Prelude.{◌≡◌, ◌<◌, ◌+◌, ℕ, List, [], fold, length, All}
use Rattle.ledger_rows.specs.declared.entry.Entry.{Entry}
use Rattle.ledger_rows.specs.declared.rows.Engine.{Engine}
use Rattle.keepers.specs.Keeper.{OnHolding, Report, Unreported, Fresh, Holding}
use Rattle.session_engines.specs.Ledger.{IsSoundLedger, LedgerView, stepped}
use Rattle.site_server.specs.Turns.{HadRoom, RoseBy, StandFrom, Turn, entries_in, failures_in}

-- the report after entries, one after another
abbrev pub report_after : Engine → List Entry → Report → Report
report_after engine entries report = fold (λ r entry. stepped engine entry r) report entries

-- the audit list, empty where it isn't reported
abbrev pub list_of : Report → List Entry
list_of Unreported = []
list_of Fresh = []
list_of (Holding contents) = contents.entries

-- the store holds what these steps leave, one after another, with their entries appended to the audit list. A ledger that
-- was sound stays so, and then each reply is the one of the state at its entry's index
pub record HaveTurned (turns : List Turn) (found left : LedgerView) : Type 0 where
  pub cfg : left.cfg ≡ found.cfg
  pub boot : left.boot ≡ found.boot
  pub report : left.kept.report ≡ report_after found.cfg.engine (entries_in turns) found.kept.report
  pub sound : IsSoundLedger found → IsSoundLedger left
  pub replies : IsSoundLedger found → OnHolding left.kept.report (λ contents. StandFrom found.cfg contents.opening contents.entries (length (list_of found.kept.report)) turns)
  pub entry_count : left.kept.entry_count ≡ found.kept.entry_count + length (entries_in turns)
  pub faults : RoseBy (failures_in turns) found.kept.faults left.kept.faults
  pub room : HadRoom left.kept.entry_count turns

-- this worker has entered nothing of this start for a request of this number or a later one
pub record IsUsedBelow (boot worker number : ℕ) (entry : Entry) : Type 0 where
  pub below : entry.tag.boot ≡ boot → entry.tag.worker ≡ worker → entry.tag.request < number

-- so it is of each entry, where they are reported
abbrev pub IsUnused : ℕ → ℕ → LedgerView → Type 0
IsUnused worker number ledger = OnHolding ledger.kept.report (λ contents. All (IsUsedBelow ledger.boot worker number) contents.entries)
