-- What the steps of a worker did to the store: each was done and entered, or refused.
use Rattle.std.specs.Prelude.{◌≡◌, ◌≤◌, ◌+◌, ◌^◌, ◌⊎◌, ℕ, suc, min, ◌-◌, List, [], ◌∷◌, Some, Result, Ok, Err}
use Rattle.ledger_rows.specs.History.{entry_at, reply_at}
use Rattle.ledger_rows.specs.declared.entry.Entry.{Entry}
use Rattle.ledger_rows.specs.declared.entry.Tag.{Tag}
use Rattle.ledger_rows.specs.declared.operation.Op.{Op}
use Rattle.ledger_rows.specs.declared.reply.Reply.{Reply}
use Rattle.ledger_rows.specs.declared.rows.Cfg.{Cfg}
use Rattle.ledger_rows.specs.declared.rows.Opening.{Opening}
use Rattle.session_engines.specs.Ledger.{DrawsIds}
use Rattle.session_engines.specs.declared.step_fault.StepFault.{StepFault}
use Rattle.session_engines.specs.declared.step_fault.StepFault.TheVariants.{Keeper, Full, Memory}

-- what became of one step: it was done, with this reply; the store failed in it; or there was no room for it
pub data Turn : Type 0 where
  Did : Tag → Op → Reply → Turn
  Failed : Turn
  HadNoRoom : Op → Turn

-- a step that memory was out for left the store alone
abbrev pub turns_of_step : Tag → Op → Result Reply StepFault → List Turn
turns_of_step tag op (Ok reply) = Did tag op reply ∷ []
turns_of_step tag op (Err (Keeper before after)) = Failed ∷ []
turns_of_step tag op (Err Full) = HadNoRoom op ∷ []
turns_of_step tag op (Err Memory) = []

-- the entries of the steps that were done
abbrev pub entries_in : List Turn → List Entry
entries_in [] = []
entries_in (Did tag op reply ∷ turns) = record { tag = tag; op = op } ∷ entries_in turns
entries_in (_ ∷ turns) = entries_in turns

-- how many of the steps the store failed in
abbrev pub failures_in : List Turn → ℕ
failures_in [] = 0
failures_in (Failed ∷ turns) = 1 + failures_in turns
failures_in (_ ∷ turns) = failures_in turns

-- the count is greater by at least so many faults, or at its greatest value
abbrev pub RoseBy : ℕ → ℕ → ℕ → Type 0
RoseBy faults before now = min (before + faults) (2 ^ 64 - 1) ≤ now

-- each step that was done has its entry in the audit list, at an index of its own from this one on, in the order of the
-- steps; and its reply is the one of the state at that index
abbrev pub StandFrom : Cfg → Opening → List Entry → ℕ → List Turn → Type 0
StandFrom cfg opening entries from [] = Unit {0}
StandFrom cfg opening entries from (Did tag op reply ∷ turns) =
    (index : ℕ) × (from ≤ index) × (entry_at entries index ≡ Some (record { tag = tag; op = op }))
    × (reply_at cfg opening entries index ≡ Some reply) × StandFrom cfg opening entries (suc index) turns
StandFrom cfg opening entries from (Failed ∷ turns) = StandFrom cfg opening entries from turns
StandFrom cfg opening entries from (HadNoRoom op ∷ turns) = StandFrom cfg opening entries from turns

-- where a step had no room, the audit list has so many entries, or the operation is one that draws ids
abbrev pub HadRoom : ℕ → List Turn → Type 0
HadRoom count [] = Unit {0}
HadRoom count (HadNoRoom op ∷ turns) = ((2 ^ 62 ≤ count) ⊎ DrawsIds op) × HadRoom count turns
HadRoom count (_ ∷ turns) = HadRoom count turns
