-- What follows from the definitions.
use Rattle.std.specs.Prelude.{◌≡◌, ◌↔◌, ◌++◌, ◌<◌, ◌≤◌, ℕ, suc, [], ◌∷◌, List, Option, Some, length, if◌then◌else◌}
use Rattle.crypto_text.specs.TextList.{AreDifferent}
use Rattle.ledger_rows.specs.State.{State, opening_state}
use Rattle.ledger_rows.specs.Tables.{Tables, opening_tables}
use Rattle.ledger_rows.specs.Admission.{IsAdmitted, found_user, verdict_of}
use Rattle.ledger_rows.specs.Step.{IsOperation, state_after, users_after}
use Rattle.ledger_rows.specs.Rows.{AreInOrder, AreSound}
use Rattle.ledger_rows.specs.Opening.{IsOpening, names_of_users}
use Rattle.ledger_rows.specs.History.{IsLegal, entry_at, is_of_worker, is_own, own_entries, reply_at, state_at, worker_entries}
use Rattle.ledger_rows.specs.declared.rows.Cfg.{Cfg}
use Rattle.ledger_rows.specs.declared.rows.Engine.{Engine}
use Rattle.ledger_rows.specs.declared.rows.Opening.{Opening}
use Rattle.ledger_rows.specs.declared.rows.UserRow.{UserRow}
use Rattle.ledger_rows.specs.declared.verdict.Verdict.TheVariants.{Admitted}
use Rattle.ledger_rows.specs.declared.operation.Op.{Op}
use Rattle.ledger_rows.specs.declared.entry.Entry.{Entry}

-- the opening state is legal, with no entry
abbrev pub OpeningIsLegal : Type 0
OpeningIsLegal = (engine : Engine) (opening : Opening) → IsLegal engine opening [] (opening_state opening)

-- a legal history stays legal by one more entry, with the state that its operation leaves
abbrev pub LegalHistoryGrows : Type 0
LegalHistoryGrows = (engine : Engine) (opening : Opening) (state : State) (entries : List Entry) (entry : Entry)
    → IsOperation entry.op → IsLegal engine opening entries state
    → IsLegal engine opening (entries ++ entry ∷ []) (state_after engine entry.op state)

-- the state one index on is the state after the entry
abbrev pub StateAtNext : Type 0
StateAtNext = (engine : Engine) (opening : Opening) (entries : List Entry) (index : ℕ) (entry : Entry)
    → entry_at entries index ≡ Some entry
    → state_at engine opening entries (suc index) ≡ state_after engine entry.op (state_at engine opening entries index)

-- entries that are appended later change neither an earlier entry nor the reply to it, nor the states up to the end
abbrev pub PrefixStays : Type 0
PrefixStays = (cfg : Cfg) (opening : Opening) (entries later : List Entry) (index : ℕ)
    → (index < length entries → (entry_at (entries ++ later) index ≡ entry_at entries index) × (reply_at cfg opening (entries ++ later) index ≡ reply_at cfg opening entries index))
    × (index ≤ length entries → state_at cfg.engine opening (entries ++ later) index ≡ state_at cfg.engine opening entries index)

-- one more entry is appended to those of its own request, and leaves those of every other as they were
abbrev pub OwnEntriesGrow : Type 0
OwnEntriesGrow = (entries : List Entry) (entry : Entry) (boot worker request : ℕ)
    → own_entries (entries ++ entry ∷ []) boot worker request
    ≡ own_entries entries boot worker request ++ (if is_own boot worker request entry then entry ∷ [] else [])

-- one more entry is appended to those of its own worker, and leaves those of every other as they were
abbrev pub WorkerEntriesGrow : Type 0
WorkerEntriesGrow = (entries : List Entry) (entry : Entry) (boot worker : ℕ)
    → worker_entries (entries ++ entry ∷ []) boot worker
    ≡ worker_entries entries boot worker ++ (if is_of_worker boot worker entry then entry ∷ [] else [])

-- a load admits a user exactly where the session is stored and unexpired, its configured backend admits the user, and its
-- stored hash is the HMAC of the user's present password text under a present key
abbrev pub LoadAdmitsExactly : Type 0
LoadAdmitsExactly = (cfg : Cfg) (state : State) (cookie : Option (List ℕ)) (now : ℕ) (user : UserRow) (index : ℕ)
    → ((verdict_of cfg state cookie now ≡ Admitted index) × (found_user cfg.engine state cookie now ≡ Some user))
    ↔ IsAdmitted cfg state cookie now user index

-- the rows that a new store begins with are sound
abbrev pub OpeningRowsAreSound : Type 0
OpeningRowsAreSound = (opening : Opening) → IsOpening opening → AreSound (opening_tables opening)

-- no operation gives two users one name
abbrev pub NamesStayDifferent : Type 0
NamesStayDifferent = (op : Op) (tables : Tables) → AreInOrder tables → AreDifferent (names_of_users (users_after op tables))
