-- The tags of the entries that a connection adds: those of its worker, its start and its requests.
use Rattle.std.proofs.Common.{◌≡◌, ℕ, suc, ◌+◌, ◌<◌, ◌≤◌, List, [], ◌∷◌, ◌++◌, length, refl, sym, ap, ◌∙◌, subst, arith, append-nil, inl, inr}
use Rattle.std.specs.Prelude.{All}
use Rattle.std.proofs.lemmas.List.Elements.{All-append, All-cons, All-nil}
use Rattle.ledger_rows.specs.Step.{boot_after, tables_after}
use Rattle.ledger_rows.specs.Tables.{Tables}
use Rattle.ledger_rows.specs.declared.entry.Entry.{Entry}
use Rattle.ledger_rows.specs.declared.operation.Op.{Op}
use Rattle.ledger_rows.specs.declared.operation.Op.TheVariants.{Boot}
use Rattle.ledger_rows.specs.declared.rows.Engine.{Engine}
use Rattle.account_views.specs.Walk.{Event}
use Rattle.keepers.specs.Keeper.{Contents, OnHolding, Report, Unreported, Fresh, Holding}
use Rattle.session_engines.specs.Ledger.{LedgerView}
use Rattle.site_server.specs.ManageSite.{HasKnownBoots}
use Rattle.site_server.specs.OneWorker.{AreTurnsOfAll}
use Rattle.site_server.specs.Outcome.{AreTurnsOf, Done, Ending, IsLastTurn, OutOfMemory, Server, StoreFailed, StoreFull, tag_of, turns_from}
use Rattle.site_server.specs.OwnLedger.{HaveTurned, IsUnused, IsUsedBelow, report_after}
use Rattle.site_server.specs.Transcript.{Exchange}
use Rattle.site_server.specs.Turns.{Turn, entries_in}
use Rattle.site_server.specs.OwnLedgerLaws.{entries_in-append, report_after-fresh, report_after-holding, report_after-unreported}

-- the entry is of this worker, for one of these requests
pub record HasTagOf (server : Server) (low high : ℕ) (entry : Entry) : Type 0 where
  pub boot : entry.tag.boot ≡ server.boot
  pub worker : entry.tag.worker ≡ server.worker
  pub from : low ≤ entry.tag.request
  pub below : entry.tag.request < high

wider : (server : Server) (low high lower higher : ℕ) → lower ≤ low → high ≤ higher → (entries : List Entry) → All (HasTagOf server low high) entries → All (HasTagOf server lower higher) entries
wider server low high lower higher le ge entries all k d below =
    let tag = all k d below in record { boot = tag.boot; worker = tag.worker; from = omega (arith, tag.from); below = omega (arith, tag.below) }

events_tags : (server : Server) (number step : ℕ) (events : List Event) → All (HasTagOf server number (number + 1)) (entries_in (turns_from server number step events))
events_tags server number step [] = All-nil (HasTagOf server number (number + 1))
events_tags server number step (event ∷ events) =
    All-cons (HasTagOf server number (number + 1)) (record { tag = tag_of server number step; op = event.op }) (entries_in (turns_from server number (step + 1) events))
    (record { boot = refl; worker = refl; from = omega arith; below = omega arith }) (events_tags server number (step + 1) events)

no_entry : (ending : Ending) (last : List Turn) → IsLastTurn ending last → entries_in last ≡ []
no_entry (Done response) last is = ap (λ turns. entries_in turns) is
no_entry StoreFailed last is = ap (λ turns. entries_in turns) is
no_entry StoreFull last (op, is) = ap (λ turns. entries_in turns) is
no_entry OutOfMemory last (inl is) = ap (λ turns. entries_in turns) is
no_entry OutOfMemory last (inr (inl is)) = ap (λ turns. entries_in turns) is
no_entry OutOfMemory last (inr (inr (op, is))) = ap (λ turns. entries_in turns) is

request_tags : (server : Server) (number : ℕ) (e : Exchange) (turns : List Turn) → AreTurnsOf server number e.outcome turns → All (HasTagOf server number (number + 1)) (entries_in turns)
request_tags server number e turns of =
    let events : List Turn = turns_from server number 0 e.outcome.events in
    let same : entries_in turns ≡ entries_in events =
    ap (λ ts. entries_in ts) of.all ∙ entries_in-append events of.last ∙ ap (λ es. entries_in events ++ es) (no_entry e.outcome.ending of.last of.is_last) ∙ append-nil (entries_in events) in
    subst (λ es. All (HasTagOf server number (number + 1)) es) (sym same) (events_tags server number 0 e.outcome.events)

pub all_tags : (server : Server) (number : ℕ) (exchanges : List Exchange) (turns : List Turn) → AreTurnsOfAll server number exchanges turns
    → All (HasTagOf server number (number + length exchanges)) (entries_in turns)
all_tags server number [] turns none =
    subst (λ ts. All (HasTagOf server number (number + 0)) (entries_in ts)) (sym none) (All-nil (HasTagOf server number (number + 0)))
all_tags server number (e ∷ others) turns (here, later, all, of, rest) =
    let count : number + 1 + length others ≡ number + suc (length others) = omega arith in
    let first : All (HasTagOf server number (number + suc (length others))) (entries_in here) =
    wider server number (number + 1) number (number + suc (length others)) (omega arith) (omega arith) (entries_in here) (request_tags server number e here of) in
    let second : All (HasTagOf server number (number + suc (length others))) (entries_in later) =
    wider server (number + 1) (number + 1 + length others) number (number + suc (length others)) (omega arith) (omega arith) (entries_in later) (all_tags server (number + 1) others later rest) in
    subst (λ es. All (HasTagOf server number (number + suc (length others))) es) (sym (ap (λ ts. entries_in ts) all ∙ entries_in-append here later))
    (All-append (HasTagOf server number (number + suc (length others))) (entries_in here) (entries_in later) first second)

-- ---- the numbers of requests

used_below : (server : Server) (first next : ℕ) (entries : List Entry) → All (HasTagOf server first next) entries → All (IsUsedBelow server.boot server.worker next) entries
used_below server first next entries all k d below = record { below = λ boot worker. (all k d below).below }

used_longer : (boot worker first next : ℕ) → first ≤ next → (entries : List Entry) → All (IsUsedBelow boot worker first) entries → All (IsUsedBelow boot worker next) entries
used_longer boot worker first next le entries all k d below = record { below = λ is also. omega (arith, (all k d below).below is also) }

pub still_unused : (server : Server) (first : ℕ) (exchanges : List Exchange) (turns : List Turn) (found left : LedgerView) → server.boot ≡ found.boot
    → AreTurnsOfAll server first exchanges turns → HaveTurned turns found left → IsUnused server.worker first found → IsUnused server.worker (first + length exchanges) left
still_unused server first exchanges turns found left same of turned unused = on found.kept.report left.kept.report turned.report unused
  where
    on : (before after : Report) → after ≡ report_after found.cfg.engine (entries_in turns) before
        → OnHolding before (λ contents. All (IsUsedBelow found.boot server.worker first) contents.entries)
        → OnHolding after (λ contents. All (IsUsedBelow left.boot server.worker (first + length exchanges)) contents.entries)
    on Unreported after is unused = subst (λ r. OnHolding r (λ contents. All (IsUsedBelow left.boot server.worker (first + length exchanges)) contents.entries)) (sym (is ∙ report_after-unreported found.cfg.engine (entries_in turns))) tt
    on Fresh after is unused = subst (λ r. OnHolding r (λ contents. All (IsUsedBelow left.boot server.worker (first + length exchanges)) contents.entries)) (sym (is ∙ report_after-fresh found.cfg.engine (entries_in turns))) tt
    on (Holding contents) after is unused =
        let grown = report_after-holding found.cfg.engine (entries_in turns) contents in
        let next : ℕ = first + length exchanges in
        let old : All (IsUsedBelow found.boot server.worker next) contents.entries = used_longer found.boot server.worker first next (omega arith) contents.entries unused in
        let new : All (IsUsedBelow found.boot server.worker next) (entries_in turns) =
        subst (λ b. All (IsUsedBelow b server.worker next) (entries_in turns)) same (used_below server first next (entries_in turns) (all_tags server first exchanges turns of)) in
        let both : All (IsUsedBelow found.boot server.worker next) (contents.entries ++ entries_in turns) =
        All-append (IsUsedBelow found.boot server.worker next) contents.entries (entries_in turns) old new in
        subst (λ r. OnHolding r (λ c. All (IsUsedBelow left.boot server.worker next) c.entries)) (sym (is ∙ grown.1))
        (subst (λ b. All (IsUsedBelow b server.worker next) (grown.0).entries) (sym turned.boot)
        (subst (λ es. All (IsUsedBelow found.boot server.worker next) es) (sym (grown.2).entries) both))

-- ---- the numbers of starts

IsKnown : ℕ → Entry → Type 0
IsKnown boot entry = entry.tag.boot ≤ boot

boot_grows : (op : Op) (tables : Tables) → tables.boot ≤ boot_after op tables
boot_grows Boot tables = omega arith
boot_grows _ tables = omega arith

boots_grow : (engine : Engine) (entries : List Entry) (contents left : Contents) → Holding left ≡ report_after engine entries (Holding contents) → contents.tables.boot ≤ left.tables.boot
boots_grow engine [] contents left is = let same : left ≡ contents = cc in omega (arith, ap (λ (c : Contents). c.tables.boot) same)
boots_grow engine (entry ∷ entries) contents left is =
    let next : Contents = record contents { tables = tables_after engine entry.op contents.tables; entries = contents.entries ++ entry ∷ [] } in
    omega (arith, boot_grows entry.op contents.tables, boots_grow engine entries next left is)

known_longer : (low high : ℕ) → low ≤ high → (entries : List Entry) → All (λ (e : Entry). e.tag.boot ≤ low) entries → All (λ (e : Entry). e.tag.boot ≤ high) entries
known_longer low high le entries all k d below = omega (arith, all k d below)

known_tags : (server : Server) (first next boot : ℕ) → server.boot ≤ boot → (entries : List Entry) → All (HasTagOf server first next) entries → All (λ (e : Entry). e.tag.boot ≤ boot) entries
known_tags server first next boot le entries all k d below = omega (arith, (all k d below).boot)

-- the entries that a connection adds are known, where its start is
pub known_turned : (server : Server) (first : ℕ) (exchanges : List Exchange) (turns : List Turn) (found left : LedgerView)
    → OnHolding found.kept.report (λ contents. server.boot ≤ contents.tables.boot)
    → AreTurnsOfAll server first exchanges turns → HaveTurned turns found left → HasKnownBoots found.kept → HasKnownBoots left.kept
known_turned server first exchanges turns found left started of turned known = on found.kept.report left.kept.report turned.report started known
  where
    on : (before after : Report) → after ≡ report_after found.cfg.engine (entries_in turns) before
        → OnHolding before (λ contents. server.boot ≤ contents.tables.boot)
        → OnHolding before (λ contents. All (λ (e : Entry). e.tag.boot ≤ contents.tables.boot) contents.entries)
        → OnHolding after (λ contents. All (λ (e : Entry). e.tag.boot ≤ contents.tables.boot) contents.entries)
    on Unreported after is started known = subst (λ r. OnHolding r (λ contents. All (λ (e : Entry). e.tag.boot ≤ contents.tables.boot) contents.entries)) (sym (is ∙ report_after-unreported found.cfg.engine (entries_in turns))) tt
    on Fresh after is started known = subst (λ r. OnHolding r (λ contents. All (λ (e : Entry). e.tag.boot ≤ contents.tables.boot) contents.entries)) (sym (is ∙ report_after-fresh found.cfg.engine (entries_in turns))) tt
    on (Holding contents) after is started known =
        let grown = report_after-holding found.cfg.engine (entries_in turns) contents in
        let later : contents.tables.boot ≤ (grown.0).tables.boot = boots_grow found.cfg.engine (entries_in turns) contents grown.0 (sym grown.1) in
        let old : All (λ (e : Entry). e.tag.boot ≤ (grown.0).tables.boot) contents.entries = known_longer contents.tables.boot (grown.0).tables.boot later contents.entries known in
        let new : All (λ (e : Entry). e.tag.boot ≤ (grown.0).tables.boot) (entries_in turns) =
        known_tags server first (first + length exchanges) (grown.0).tables.boot (omega (arith, later, started)) (entries_in turns) (all_tags server first exchanges turns of) in
        subst (λ r. OnHolding r (λ c. All (λ (e : Entry). e.tag.boot ≤ c.tables.boot) c.entries)) (sym (is ∙ grown.1))
        (subst (λ es. All (λ (e : Entry). e.tag.boot ≤ (grown.0).tables.boot) es) (sym (grown.2).entries)
        (All-append (λ (e : Entry). e.tag.boot ≤ (grown.0).tables.boot) contents.entries (entries_in turns) old new))
