-- What is seen of a ledger, what a step does to it, and when it is sound.
use Rattle.std.specs.Prelude.{◌≡◌, ◌<◌, ◌≤◌, ◌+◌, ◌^◌, ◌⊎◌, ⊤, ℕ, List, [], ◌∷◌, ◌++◌, Result, Ok, Err}
use Rattle.outside.specs.Faults.{Rose}
use Rattle.ledger_rows.specs.State.{State}
use Rattle.ledger_rows.specs.Step.{RunsOut, cache_after, reply_to, tables_after}
use Rattle.ledger_rows.specs.History.{IsLegal}
use Rattle.ledger_rows.specs.Replies.{IsReplyOf}
use Rattle.ledger_rows.specs.declared.rows.Cfg.{Cfg}
use Rattle.ledger_rows.specs.declared.rows.Engine.{Engine}
use Rattle.ledger_rows.specs.declared.rows.SessionRow.{SessionRow}
use Rattle.ledger_rows.specs.declared.entry.Entry.{Entry}
use Rattle.ledger_rows.specs.declared.entry.Tag.{Tag}
use Rattle.ledger_rows.specs.declared.operation.Op.{Op}
use Rattle.ledger_rows.specs.declared.operation.Op.TheVariants.{AddUser, MakeReset}
use Rattle.ledger_rows.specs.declared.reply.Reply.{Reply}
use Rattle.keepers.specs.Keeper.{Contents, Kept, OnHolding, Report, Unreported, Fresh, Holding}
use Rattle.session_engines.specs.declared.step_fault.StepFault.{StepFault}
use Rattle.session_engines.specs.declared.step_fault.StepFault.TheVariants.{Keeper, Full, Memory}

pub record LedgerView : Type 0 where
  -- what its keeper reports
  pub kept : Kept
  pub cfg : Cfg
  -- the number of this start
  pub boot : ℕ
  -- the rows of its cache: none in the engine `Db`
  pub cache : List SessionRow

-- the state that a store and a cache hold
abbrev pub state_of : Contents → List SessionRow → State
state_of contents cache = record { tables = contents.tables; cache = cache }

-- a fact about a ledger's state, where it is reported
abbrev pub OnState : LedgerView → (State → Type 0) → Type 0
OnState ledger P = OnHolding ledger.kept.report (λ contents. P (state_of contents ledger.cache))

-- the report after an operation was done and its entry appended
abbrev pub stepped : Engine → Entry → Report → Report
stepped engine entry Unreported = Unreported
stepped engine entry Fresh = Fresh
stepped engine entry (Holding contents) = Holding (record contents {
  tables = tables_after engine entry.op contents.tables;
  entries = contents.entries ++ entry ∷ [];
})

-- a keeper after that
abbrev pub kept_after : Engine → Entry → Kept → Kept
kept_after engine entry kept = record kept { report = stepped engine entry kept.report; entry_count = kept.entry_count + 1 }

-- there is room for one more entry
abbrev pub HasRoom : Kept → Type 0
HasRoom kept = kept.entry_count < 2 ^ 62

-- a step was done and entered
pub record HasStepped (old : LedgerView) (entry : Entry) (answer : Reply) (new : LedgerView) : Type 0 where
  pub room : HasRoom old.kept
  pub kind : IsReplyOf entry.op answer
  pub reply : OnState old (λ state. answer ≡ reply_to old.cfg entry.op state)
  pub cache : OnState old (λ state. new.cache ≡ cache_after old.cfg.engine entry.op state)
  pub ledger : new ≡ record old { kept = kept_after old.cfg.engine entry old.kept; cache = new.cache }

-- the store failed: its counts of faults before the step and after it
pub record HasFailed (old new : Kept) (first last : ℕ) : Type 0 where
  pub room : HasRoom old
  pub before : first ≡ old.faults
  pub after : last ≡ new.faults
  pub rose : Rose first last

-- there was no memory
pub record IsShort (old new : Kept) : Type 0 where
  pub room : HasRoom old
  pub faults : new.faults ≡ old.faults

-- the operation draws ids
abbrev pub DrawsIds : Op → Type 0
DrawsIds (AddUser name email password superuser) = ⊤
DrawsIds (MakeReset email now) = ⊤
DrawsIds _ = ⊥

-- the ids that the operation draws have run out, where that is reported
abbrev pub MayRunOut : Op → Report → Type 0
MayRunOut op report = DrawsIds op × OnHolding report (λ contents. RunsOut op contents.tables)

-- the audit list is full, or the ids that the operation draws have run out
pub record IsFull (op : Op) (old new : Kept) : Type 0 where
  pub full : (2 ^ 62 ≤ old.entry_count) ⊎ MayRunOut op old.report
  pub faults : new.faults ≡ old.faults

-- why a step was refused
abbrev pub HasCause : Op → Kept → Kept → StepFault → Type 0
HasCause op old new (Keeper before after) = HasFailed old new before after
HasCause op old new Full = IsFull op old new
HasCause op old new Memory = IsShort old new

-- a step was refused, and nothing but the count of faults is changed
pub record IsRefusedStep (op : Op) (old : LedgerView) (fault : StepFault) (new : LedgerView) : Type 0 where
  pub cause : HasCause op old.kept new.kept fault
  pub ledger : new ≡ record old { kept = record old.kept { faults = new.kept.faults } }

-- what a step does to a ledger, by its result
abbrev pub Steps : LedgerView → Tag → Op → Result Reply StepFault → LedgerView → Type 0
Steps old tag op (Ok reply) new = HasStepped old (record { tag = tag; op = op }) reply new
Steps old tag op (Err fault) new = IsRefusedStep op old fault new

-- a ledger's audit list is a legal history in its engine, with the state that it leaves, and its start is the last one
pub record HasLegalHistory (ledger : LedgerView) (contents : Contents) : Type 0 where
  pub legal : IsLegal ledger.cfg.engine contents.opening contents.entries (state_of contents ledger.cache)
  pub boot : ledger.boot ≡ contents.tables.boot

-- it has, where its keeper reports
abbrev pub IsSoundLedger : LedgerView → Type 0
IsSoundLedger ledger = OnHolding ledger.kept.report (HasLegalHistory ledger)
