-- Histories: an entry leads from the state at its index to the next, and a list that grows at its end keeps what was said.
use Rattle.std.proofs.Common.{◌≡◌, ◌++◌, ◌+◌, ◌<◌, ◌≤◌, ℕ, zero, suc, [], ◌∷◌, List, Option, Some, None, length, take, refl, ap, sym, subst, ◌∙◌, arith}
use Rattle.std.specs.Prelude.{option_map}
use Rattle.std.proofs.lemmas.List.{take-append-le}
use Rattle.std.proofs.lemmas.List.Sums.{fold-append}
use Rattle.std.proofs.lemmas.List.Elements.{All-append, All-cons, All-nil}
use Rattle.std.proofs.Math.Seq.{take-length}
use Rattle.ledger_rows.specs.State.{State, opening_state}
use Rattle.ledger_rows.specs.Step.{IsOperation, reply_to, state_after}
use Rattle.ledger_rows.specs.History.{entry_at, reply_at, state_after_all, state_at}
use Rattle.ledger_rows.specs.Laws.{LegalHistoryGrows, OpeningIsLegal, PrefixStays, StateAtNext}
use Rattle.ledger_rows.specs.declared.rows.Cfg.{Cfg}
use Rattle.ledger_rows.specs.declared.rows.Engine.{Engine}
use Rattle.ledger_rows.specs.declared.rows.Opening.{Opening}
use Rattle.ledger_rows.specs.declared.entry.Entry.{Entry}

-- the state after all entries is the state at the end of the list
pub state_at-length : (engine : Engine) (opening : Opening) (entries : List Entry)
    → state_at engine opening entries (length entries) ≡ state_after_all engine entries (opening_state opening)
state_at-length engine opening entries = ap (λ es. state_after_all engine es (opening_state opening)) (take-length entries)

-- entries one after another, and then one more
pub state_after_all-append : (engine : Engine) (state : State) (entries : List Entry) (entry : Entry)
    → state_after_all engine (entries ++ entry ∷ []) state ≡ state_after engine entry.op (state_after_all engine entries state)
state_after_all-append engine state entries entry = fold-append (λ s e. state_after engine e.op s) state entries (entry ∷ [])

pub opening_is_legal : OpeningIsLegal
opening_is_legal engine opening = record { operations = All-nil (λ e. IsOperation e.op); state_is = refl }

pub legal_history_grows : LegalHistoryGrows
legal_history_grows engine opening state entries entry operation legal = record {
  operations = All-append (λ e. IsOperation e.op) entries (entry ∷ []) legal.operations (All-cons (λ e. IsOperation e.op) entry [] operation (λ k d below. absurd (omega arith)));
  state_is =
      ap (state_after engine entry.op) (legal.state_is ∙ state_at-length engine opening entries)
      ∙ sym (state_after_all-append engine (opening_state opening) entries entry)
      ∙ sym (state_at-length engine opening (entries ++ entry ∷ []));
}

-- ---- from index to index

state_after_all-next : (engine : Engine) (entries : List Entry) (index : ℕ) (entry : Entry) (state : State) → entry_at entries index ≡ Some entry
    → state_after_all engine (take (suc index) entries) state ≡ state_after engine entry.op (state_after_all engine (take index entries) state)
state_after_all-next engine [] index entry state e = let n : None ≡ Some entry = e in cc
state_after_all-next engine (x ∷ xs) zero entry state e = let same : x ≡ entry = cc in ap (λ (y : Entry). state_after engine y.op state) same
state_after_all-next engine (x ∷ xs) (suc index) entry state e = state_after_all-next engine xs index entry (state_after engine x.op state) e

pub state_at_next : StateAtNext
state_at_next engine opening entries index entry e = state_after_all-next engine entries index entry (opening_state opening) e

pub entry_within : (entries : List Entry) (index : ℕ) (entry : Entry) → entry_at entries index ≡ Some entry → suc index ≤ length entries
entry_within [] index entry e = let n : None ≡ Some entry = e in cc
entry_within (x ∷ xs) zero entry e = omega arith
entry_within (x ∷ xs) (suc index) entry e = omega (arith, entry_within xs index entry e)

pub entry_below : (entries : List Entry) (index : ℕ) → index < length entries → (entry : Entry) × (entry_at entries index ≡ Some entry)
entry_below [] index low = absurd (omega arith)
entry_below (x ∷ xs) zero low = (x, refl)
entry_below (x ∷ xs) (suc index) low = entry_below xs index (omega arith)

-- the entry that was appended to a list
pub entry_at-last : (entries : List Entry) (entry : Entry) (later : List Entry) → entry_at (entries ++ entry ∷ later) (length entries) ≡ Some entry
entry_at-last [] entry later = refl
entry_at-last (x ∷ xs) entry later = entry_at-last xs entry later

-- what each entry keeps holds at each index from one on
pub holds_from : (P : State → ℕ → Type 0) (engine : Engine) (opening : Opening) (entries : List Entry)
    → (start : ℕ) → P (state_at engine opening entries start) start
    → ((index : ℕ) (entry : Entry) → start ≤ index → entry_at entries index ≡ Some entry → P (state_at engine opening entries index) index
    → P (state_after engine entry.op (state_at engine opening entries index)) (suc index))
    → (more : ℕ) → start + more ≤ length entries → P (state_at engine opening entries (start + more)) (start + more)
holds_from P engine opening entries start first step zero low = subst (λ (n : ℕ). P (state_at engine opening entries n) n) (omega arith) first
holds_from P engine opening entries start first step (suc more) low =
    let found = entry_below entries (start + more) (omega arith) in
    let here : P (state_after engine (found.0).op (state_at engine opening entries (start + more))) (suc (start + more)) =
    step (start + more) found.0 (omega arith) found.1 (holds_from P engine opening entries start first step more (omega arith)) in
    let next : P (state_at engine opening entries (suc (start + more))) (suc (start + more)) =
    subst (λ (s : State). P s (suc (start + more))) (sym (state_at_next engine opening entries (start + more) found.0 found.1)) here in
    subst (λ (n : ℕ). P (state_at engine opening entries n) n) (omega arith) next

-- the same, from the opening
pub holds_at : (P : State → ℕ → Type 0) (engine : Engine) (opening : Opening) (entries : List Entry) → P (opening_state opening) 0
    → ((index : ℕ) (entry : Entry) → entry_at entries index ≡ Some entry → P (state_at engine opening entries index) index
    → P (state_after engine entry.op (state_at engine opening entries index)) (suc index))
    → (index : ℕ) → index ≤ length entries → P (state_at engine opening entries index) index
holds_at P engine opening entries first step index low =
    let found : P (state_at engine opening entries (0 + index)) (0 + index) =
    holds_from P engine opening entries 0 first (λ i e from. step i e) index (omega arith) in
    subst (λ (n : ℕ). P (state_at engine opening entries n) n) (omega arith) found

-- ---- a longer list

pub entry_at-append : (entries later : List Entry) (index : ℕ) → index < length entries → entry_at (entries ++ later) index ≡ entry_at entries index
entry_at-append [] later index low = absurd (omega arith)
entry_at-append (x ∷ xs) later zero low = refl
entry_at-append (x ∷ xs) later (suc index) low = entry_at-append xs later index (omega arith)

pub state_at-append : (engine : Engine) (opening : Opening) (entries later : List Entry) (index : ℕ) → index ≤ length entries
    → state_at engine opening (entries ++ later) index ≡ state_at engine opening entries index
state_at-append engine opening entries later index low = ap (λ es. state_after_all engine es (opening_state opening)) (take-append-le index entries later low)

pub reply_at-append : (cfg : Cfg) (opening : Opening) (entries later : List Entry) (index : ℕ) → index < length entries
    → reply_at cfg opening (entries ++ later) index ≡ reply_at cfg opening entries index
reply_at-append cfg opening entries later index low =
    ap (λ (o : Option Entry). option_map (λ (e : Entry). reply_to cfg e.op (state_at cfg.engine opening (entries ++ later) index)) o) (entry_at-append entries later index low)
    ∙ ap (λ (s : State). option_map (λ (e : Entry). reply_to cfg e.op s) (entry_at entries index)) (state_at-append cfg.engine opening entries later index (omega arith))

pub prefix_stays : PrefixStays
prefix_stays cfg opening entries later index = (
  λ low. (entry_at-append entries later index low, reply_at-append cfg opening entries later index low),
  λ low. state_at-append cfg.engine opening entries later index low,
)
