-- Histories: the entries of the audit list, and the states and replies that follow from them. A legal history is one
-- sequential run of the operations (a legal sequential history, as Herlihy and Wing call it).
use Rattle.std.specs.Prelude.{◌≡◌, ◌==◌, ◌&&◌, ℕ, zero, suc, Bool, List, [], ◌∷◌, Option, None, Some, filter, length, option_map, take, fold, All}
use Rattle.ledger_rows.specs.State.{State, opening_state}
use Rattle.ledger_rows.specs.Step.{IsOperation, reply_to, state_after}
use Rattle.ledger_rows.specs.declared.rows.Cfg.{Cfg}
use Rattle.ledger_rows.specs.declared.rows.Engine.{Engine}
use Rattle.ledger_rows.specs.declared.rows.Opening.{Opening}
use Rattle.ledger_rows.specs.declared.entry.Entry.{Entry}
use Rattle.ledger_rows.specs.declared.reply.Reply.{Reply}

-- the entry at an index
abbrev pub entry_at : List Entry → ℕ → Option Entry
entry_at [] index = None
entry_at (entry ∷ entries) zero = Some entry
entry_at (entry ∷ entries) (suc index) = entry_at entries index

-- the state after entries, one after another
abbrev pub state_after_all : Engine → List Entry → State → State
state_after_all engine entries state = fold (λ s entry. state_after engine entry.op s) state entries

-- the state before the entry at an index
abbrev pub state_at : Engine → Opening → List Entry → ℕ → State
state_at engine opening entries index = state_after_all engine (take index entries) (opening_state opening)

-- the reply to the entry at an index, none where there is no entry
abbrev pub reply_at : Cfg → Opening → List Entry → ℕ → Option Reply
reply_at cfg opening entries index =
    option_map (λ (entry : Entry). reply_to cfg entry.op (state_at cfg.engine opening entries index)) (entry_at entries index)

-- each entry is an operation that may be done, and the state is the one after them all
pub record IsLegal (engine : Engine) (opening : Opening) (entries : List Entry) (state : State) : Type 0 where
  pub operations : All (λ entry. IsOperation entry.op) entries
  pub state_is : state ≡ state_at engine opening entries (length entries)

-- whether an entry is one of a worker, by the number of its start
abbrev pub is_of_worker : ℕ → ℕ → Entry → Bool
is_of_worker boot worker entry = entry.tag.boot == boot && entry.tag.worker == worker

-- whether an entry is one of a worker's request
abbrev pub is_own : ℕ → ℕ → ℕ → Entry → Bool
is_own boot worker request entry = entry.tag.boot == boot && entry.tag.worker == worker && entry.tag.request == request

-- the entries of one worker, in the order of the list
abbrev pub worker_entries : List Entry → ℕ → ℕ → List Entry
worker_entries entries boot worker = filter (is_of_worker boot worker) entries

-- the entries of one request, in the order of the list
abbrev pub own_entries : List Entry → ℕ → ℕ → ℕ → List Entry
own_entries entries boot worker request = filter (is_own boot worker request) entries
