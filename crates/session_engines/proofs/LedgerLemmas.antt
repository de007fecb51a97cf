-- A ledger stays sound by a step.
use Rattle.std.proofs.Common.{◌≡◌, ◌≢◌, ◌++◌, ℕ, List, [], ◌∷◌, IfErr, IfNone, IfOk, IfSome, None, Option, Some, Result, Ok, Err, ap, refl, subst, sym, ◌∙◌}
use Rattle.ledger_rows.proofs.HistoryLemmas.{legal_history_grows}
use Rattle.ledger_rows.specs.History.{IsLegal}
use Rattle.ledger_rows.specs.Step.{IsOperation, boot_after, cache_after, tables_after}
use Rattle.ledger_rows.specs.Tables.{Tables}
use Rattle.ledger_rows.specs.declared.entry.Entry.{Entry}
use Rattle.ledger_rows.specs.declared.operation.Op.{Op}
use Rattle.ledger_rows.specs.declared.operation.Op.TheVariants.{AddUser, Boot, CheckReset, ClearExpired, Create, Cycle, Delete, FindUser, Load, MakeReset, Perms, RetireKeys, RotateKey, Save, SetActive, SetLastLogin, SetMembership, SetPassword, TakeMail}
use Rattle.ledger_rows.specs.declared.reply.Reply.{Reply}
use Rattle.ledger_rows.specs.declared.rows.Cfg.{Cfg}
use Rattle.ledger_rows.specs.declared.rows.Engine.{Engine}
use Rattle.ledger_rows.specs.declared.rows.SessionRow.{SessionRow}
use Rattle.keepers.specs.Keeper.{Contents, IsRefused, Kept, OnHolding, Report, Unreported, Fresh, Holding}
use Rattle.keepers.specs.declared.keeper.KeeperFault.{KeeperFault}
use Rattle.session_engines.specs.Ledger.{HasLegalHistory, IsSoundLedger, LedgerView, kept_after, stepped}
use Rattle.session_engines.specs.Taking.{HasRunOut, HasTaken, uncached}

-- what is seen of a ledger without a cache
abbrev pub view_of : Cfg → ℕ → Kept → LedgerView
view_of cfg boot kept = record { kept = kept; cfg = cfg; boot = boot; cache = [] }

-- but for a start, an operation leaves the cache and the number of starts
stays : (engine : Engine) (op : Op) (tables : Tables) → op ≢ Boot → (cache_after engine op (uncached tables) ≡ []) × (boot_after op tables ≡ tables.boot)
stays engine Boot tables other = absurd (other refl)
stays engine (Load cookie now) tables other = (refl, refl)
stays engine (Create key payload seconds now) tables other = (refl, refl)
stays engine (Save key payload seconds now) tables other = (refl, refl)
stays engine (Cycle old key payload seconds now) tables other = (refl, refl)
stays engine (Delete key) tables other = (refl, refl)
stays engine (ClearExpired now) tables other = (refl, refl)
stays engine (FindUser name) tables other = (refl, refl)
stays engine (SetPassword user expected fresh) tables other = (refl, refl)
stays engine (SetLastLogin user now) tables other = (refl, refl)
stays engine (AddUser name email password superuser) tables other = (refl, refl)
stays engine (SetActive name active) tables other = (refl, refl)
stays engine (SetMembership name group member) tables other = (refl, refl)
stays engine (Perms user) tables other = (refl, refl)
stays engine (RotateKey key) tables other = (refl, refl)
stays engine RetireKeys tables other = (refl, refl)
stays engine (MakeReset email now) tables other = (refl, refl)
stays engine (CheckReset user token now) tables other = (refl, refl)
stays engine TakeMail tables other = (refl, refl)

history-grows : (cfg : Cfg) (boot : ℕ) (kept : Kept) (entry : Entry) (contents : Contents) → IsOperation entry.op → entry.op ≢ Boot
    → HasLegalHistory (view_of cfg boot kept) contents
    → HasLegalHistory (view_of cfg boot (kept_after cfg.engine entry kept))
    (record contents { tables = tables_after cfg.engine entry.op contents.tables; entries = contents.entries ++ entry ∷ [] })
history-grows cfg boot kept entry contents operation other legal =
    let same = stays cfg.engine entry.op contents.tables other in
    record {
      legal =
          subst (λ (cache : List SessionRow). IsLegal cfg.engine contents.opening (contents.entries ++ entry ∷ [])
          (record { tables = tables_after cfg.engine entry.op contents.tables; cache = cache })) same.0
          (legal_history_grows cfg.engine contents.opening (uncached contents.tables) contents.entries entry operation legal.legal);
      boot = legal.boot ∙ sym same.1;
    }

report-grows : (cfg : Cfg) (boot : ℕ) (kept : Kept) (entry : Entry) (report : Report) → IsOperation entry.op → entry.op ≢ Boot
    → OnHolding report (HasLegalHistory (view_of cfg boot kept))
    → OnHolding (stepped cfg.engine entry report) (HasLegalHistory (view_of cfg boot (kept_after cfg.engine entry kept)))
report-grows cfg boot kept entry Unreported operation other legal = tt
report-grows cfg boot kept entry Fresh operation other legal = tt
report-grows cfg boot kept entry (Holding contents) operation other legal = history-grows cfg boot kept entry contents operation other legal

-- a refusal leaves what is reported
legal_kept : (cfg : Cfg) (boot : ℕ) (old new : Kept) → new.report ≡ old.report → IsSoundLedger (view_of cfg boot old) → IsSoundLedger (view_of cfg boot new)
legal_kept cfg boot old new same sound =
    subst (λ (report : Report). OnHolding report (HasLegalHistory (view_of cfg boot new))) (sym same) (relegal old.report sound)
  where
    relegal : (report : Report) → OnHolding report (HasLegalHistory (view_of cfg boot old)) → OnHolding report (HasLegalHistory (view_of cfg boot new))
    relegal Unreported legal = tt
    relegal Fresh legal = tt
    relegal (Holding contents) legal = record { legal = legal.legal; boot = legal.boot }

pub taken-sound : (cfg : Cfg) (boot : ℕ) (entry : Entry) (old new : Kept) (result : Result (Option Reply) KeeperFault) → IsOperation entry.op → entry.op ≢ Boot
    → IfOk result (λ reply. IfSome reply (λ answer. HasTaken cfg entry old answer new))
    → IfOk result (λ reply. IfNone reply (HasRunOut entry.op old new)) → IfErr result (IsRefused old new)
    → IsSoundLedger (view_of cfg boot old) → IsSoundLedger (view_of cfg boot new)
taken-sound cfg boot entry old new (Ok (Some answer)) operation other some none err sound =
    subst (λ (kept : Kept). IsSoundLedger (view_of cfg boot kept)) (sym some.kept) (report-grows cfg boot old entry old.report operation other sound)
taken-sound cfg boot entry old new (Ok None) operation other some none err sound = legal_kept cfg boot old new (ap (λ (k : Kept). k.report) none.kept) sound
taken-sound cfg boot entry old new (Err fault) operation other some none err sound = legal_kept cfg boot old new err.report sound
