-- A start: its number is a new one, and no entry of it is a worker's yet.
use Rattle.std.proofs.Common.{◌≡◌, ℕ, ◌+◌, ◌<◌, ◌≤◌, List, [], ◌∷◌, sym, ap, subst, arith, inl, inr}
use Rattle.std.specs.Prelude.{All, ◌⊎◌}
use Rattle.std.proofs.lemmas.List.Elements.{All-append, All-cons, All-nil}
use Rattle.ledger_rows.specs.declared.entry.Entry.{Entry}
use Rattle.ledger_rows.specs.declared.rows.Cfg.{Cfg}
use Rattle.ledger_rows.specs.declared.rows.Engine.{Engine}
use Rattle.ledger_rows.specs.declared.rows.Opening.{Opening}
use Rattle.keepers.specs.Keeper.{Contents, Kept, OnHolding, Report, Unreported, Fresh, Holding, installed, opened}
use Rattle.session_engines.specs.Ledger.{LedgerView, stepped}
use Rattle.session_engines.specs.Start.{HasOpened, IsRefusedStart, boot_entry}
use Rattle.session_engines.specs.declared.open_fault.StartFault.{StartFault}
use Rattle.site_server.specs.ManageSite.{HasKnownBoots}
use Rattle.site_server.specs.OwnLedger.{IsUnused, IsUsedBelow}

-- what is said of entries by the number of the last start
abbrev HasKnown : Report → Type 0
HasKnown report = OnHolding report (λ contents. All (λ (e : Entry). e.tag.boot ≤ contents.tables.boot) contents.entries)

one : (P : Entry → Type 0) (entry : Entry) → P entry → All P (entry ∷ [])
one P entry holds = All-cons P entry [] holds (All-nil P)

-- the entry of a start is no worker's
start_is_unused : (boot : ℕ) → IsUsedBelow boot 1 1 (boot_entry boot)
start_is_unused boot = record { below = λ is worker. let no : 0 ≡ 1 = worker in absurd (omega (arith, no)) }

old_is_unused : (boot last : ℕ) → last < boot → (entries : List Entry) → All (λ (e : Entry). e.tag.boot ≤ last) entries → All (IsUsedBelow boot 1 1) entries
old_is_unused boot last new entries known k d below = record { below = λ is worker. absurd (omega (arith, known k d below, is)) }

longer : (low high : ℕ) → low ≤ high → (entries : List Entry) → All (λ (e : Entry). e.tag.boot ≤ low) entries → All (λ (e : Entry). e.tag.boot ≤ high) entries
longer low high le entries all k d below = omega (arith, all k d below)

-- what holds of the contents after a start
pub record IsBegun (boot : ℕ) (contents : Contents) : Type 0 where
  pub unused : All (IsUsedBelow boot 1 1) contents.entries
  pub known : All (λ (e : Entry). e.tag.boot ≤ contents.tables.boot) contents.entries
  pub start : boot ≤ contents.tables.boot

begun : (engine : Engine) (boot : ℕ) (contents : Contents) → boot ≡ contents.tables.boot + 1 → All (λ (e : Entry). e.tag.boot ≤ contents.tables.boot) contents.entries
    → OnHolding (stepped engine (boot_entry boot) (Holding contents)) (IsBegun boot)
begun engine boot contents is known = record {
  unused = All-append (IsUsedBelow boot 1 1) contents.entries (boot_entry boot ∷ []) (old_is_unused boot contents.tables.boot (omega (arith, is)) contents.entries known)
      (one (IsUsedBelow boot 1 1) (boot_entry boot) (start_is_unused boot));
  known = All-append (λ (e : Entry). e.tag.boot ≤ contents.tables.boot + 1) contents.entries (boot_entry boot ∷ [])
      (longer contents.tables.boot (contents.tables.boot + 1) (omega arith) contents.entries known)
      (one (λ (e : Entry). e.tag.boot ≤ contents.tables.boot + 1) (boot_entry boot) (omega (arith, is)));
  start = omega (arith, is);
}

begun_in : (engine : Engine) (opening : Opening) (boot : ℕ) (report : Report) → OnHolding (installed opening report) (λ contents. boot ≡ contents.tables.boot + 1)
    → OnHolding report (λ contents. All (λ (e : Entry). e.tag.boot ≤ contents.tables.boot) contents.entries)
    → OnHolding (stepped engine (boot_entry boot) (installed opening report)) (IsBegun boot)
begun_in engine opening boot Unreported is known = tt
begun_in engine opening boot Fresh is known = begun engine boot (opened opening) is (All-nil (λ (e : Entry). e.tag.boot ≤ 0))
begun_in engine opening boot (Holding contents) is known = begun engine boot contents is known

pub opened_is_begun : (opening : Opening) (site : Cfg) (found : Kept) (ledger : LedgerView) → HasOpened opening site found ledger → HasKnownBoots found
    → OnHolding ledger.kept.report (IsBegun ledger.boot)
opened_is_begun opening site found ledger started known =
    subst (λ r. OnHolding r (IsBegun ledger.boot)) (sym (ap (λ (k : Kept). k.report) started.started.kept))
    (begun_in site.engine opening ledger.boot found.report started.started.boot known)

-- of a report what holds of contents
along : (P Q : Contents → Type 0) → ((contents : Contents) → P contents → Q contents) → (report : Report) → OnHolding report P → OnHolding report Q
along P Q to Unreported is = tt
along P Q to Fresh is = tt
along P Q to (Holding contents) is = to contents is

pub unused_at_start : (opening : Opening) (site : Cfg) (found : Kept) (ledger : LedgerView) → HasOpened opening site found ledger → HasKnownBoots found → IsUnused 1 1 ledger
unused_at_start opening site found ledger started known =
    along (IsBegun ledger.boot) (λ contents. All (IsUsedBelow ledger.boot 1 1) contents.entries) (λ contents is. is.unused) ledger.kept.report (opened_is_begun opening site found ledger started known)

pub known_at_start : (opening : Opening) (site : Cfg) (found : Kept) (ledger : LedgerView) → HasOpened opening site found ledger → HasKnownBoots found → HasKnownBoots ledger.kept
known_at_start opening site found ledger started known =
    along (IsBegun ledger.boot) (λ contents. All (λ (e : Entry). e.tag.boot ≤ contents.tables.boot) contents.entries) (λ contents is. is.known) ledger.kept.report (opened_is_begun opening site found ledger started known)

pub boot_at_start : (opening : Opening) (site : Cfg) (found : Kept) (ledger : LedgerView) → HasOpened opening site found ledger → HasKnownBoots found
    → OnHolding ledger.kept.report (λ contents. ledger.boot ≤ contents.tables.boot)
boot_at_start opening site found ledger started known =
    along (IsBegun ledger.boot) (λ contents. ledger.boot ≤ contents.tables.boot) (λ contents is. is.start) ledger.kept.report (opened_is_begun opening site found ledger started known)

-- where no start was entered
unstarted : (opening : Opening) (before after : Report) → HasKnown before → (after ≡ before) ⊎ (after ≡ installed opening before) → HasKnown after
unstarted opening before after known (inl is) = subst (λ r. HasKnown r) (sym is) known
unstarted opening Unreported after known (inr is) = subst (λ r. HasKnown r) (sym is) tt
unstarted opening Fresh after known (inr is) = subst (λ r. HasKnown r) (sym is) (All-nil (λ (e : Entry). e.tag.boot ≤ 0))
unstarted opening (Holding contents) after known (inr is) = subst (λ r. HasKnown r) (sym is) known

pub known_unstarted : (opening : Opening) (found left : Kept) (fault : StartFault) → IsRefusedStart opening found left fault → HasKnownBoots found → HasKnownBoots left
known_unstarted opening found left fault refused known = unstarted opening found.report left.report known refused.unstarted.report
