-- What each step asks, and what it reports (this project's own).
use Rattle.std.specs.Prelude.{◌≡◌, ◌≢◌, ◌⊎◌, ℕ, ◌+◌, ◌-◌, ◌%◌, ◌<◌, ◌≤◌, true, false, List, [], ◌∷◌, ◌++◌, length, drop, max, Option, Some, None}
use Rattle.atomic_table.specs.Table.{Me}
use Rattle.turn_lock.specs.declared.view.View.{View}
use Rattle.turn_lock.specs.Meanings.{Meanings, IsLater}
use Rattle.turn_lock.specs.Log.{own_entries, StartsWith}
use Rattle.turn_lock.specs.Count.{Rose, raised_to}
use Rattle.turn_lock.specs.Views.{gathered}

-- what a seat knows, and what it holds
abbrev pub SeatState : Type 0 → Type 0 → Type 0
SeatState B E = Me (Option B) (View B E)

module _ {B E : Type 0} where
  -- with a ticket
  abbrev pub waiter : View B E → ℕ → View B E
  waiter v t = record v { ticket = Some t }

  -- after the turn
  abbrev pub resting : View B E → View B E
  resting v = record v { ticket = None; has_turn = false; note = None }

  -- with the word of faults noted
  abbrev pub noter : View B E → ℕ → View B E
  noter v n = record v { note = Some n }

  -- with a number that it reserved, which was the least that wasn't drawn
  abbrev pub reserver : View B E → ℕ → View B E
  reserver v n = record v { reserved = Some n; known = n + 1 }

  -- with at least so many numbers that it knows to be drawn
  abbrev pub knower : View B E → ℕ → View B E
  knower v n = record v { known = n }

  -- sealed
  abbrev pub sealer : View B E → View B E
  sealer v = record v { sealed = true }

  -- with both logs compared
  abbrev pub settled : View B E → View B E
  settled v = record v { shorter = [] }

  -- the seat takes no turn, and is not spent
  abbrev pub Rests : SeatState B E → Type 0
  Rests m = (m.1 ≡ []) × (m.0.ticket ≡ None) × (m.0.has_turn ≡ false) × (m.0.note ≡ None) × ((a : B) × (m.0.origin ≡ Some a))

  -- it has a ticket, which is n where tickets end at 2^64
  abbrev pub Waits : SeatState B E → ℕ → Type 0
  Waits m n = (m.1 ≡ []) × (m.0.has_turn ≡ false) × (m.0.note ≡ None) × ((t : ℕ) × (m.0.ticket ≡ Some t) × (n ≡ t % 18446744073709551616))

  -- a ticket was drawn
  abbrev pub drew : SeatState B E → ℕ → SeatState B E → Type 0
  drew m n w = (t : ℕ) × (n ≡ t % 18446744073709551616) × (w ≡ (waiter m.0 t, m.1))

  -- the word of faults was noted
  abbrev pub noted : SeatState B E → ℕ → SeatState B E → Type 0
  noted m n w = w ≡ (noter m.0 n, m.1)

  -- the step reports nothing
  abbrev pub unchanged : SeatState B E → SeatState B E → Type 0
  unchanged m w = w ≡ m

  -- the flag was clear, and its number is reserved; or it was set
  abbrev pub numbered : ℕ → SeatState B E → ℕ → SeatState B E → Type 0
  numbered i m n w =
      ((n ≡ 0) × (w ≡ (record (m.0) { reserved = Some (i - 4); known = i - 3 }, m.1)))
      ⊎ ((n ≢ 0) × (w ≡ (record (m.0) { known = i - 3 }, m.1)))

  -- the flag after those of the gathered numbers was clear, or all numbers are gathered; or that flag was set
  abbrev pub sealed_at : ℕ → SeatState B E → ℕ → SeatState B E → Type 0
  sealed_at i m n w =
      (((n ≡ 0) ⊎ (i < length (gathered m.0) + 4)) × (m.0.known ≤ length (gathered m.0)) × (w ≡ (record (m.0) { sealed = true }, m.1)))
      ⊎ ((n ≢ 0) × (length (gathered m.0) + 4 ≤ i) × (w ≡ (record (m.0) { known = max m.0.known (i - 3) }, m.1)))

module _ {B E F : Type 0} (M : Meanings B E F) where
  -- the book as a turn finds it
  pub record Found (v : View B E) (b : B) : Type 0 where
    pub later : (a : B) → v.origin ≡ Some a → IsLater M a b
    pub grows : (a : B) → v.origin ≡ Some a → M.reports a ≡ true → StartsWith v.seen (M.log b)

  -- with the turn, on this book
  abbrev pub holder : View B E → B → View B E
  holder v b = record v { has_turn = true; seen = M.log b; level = M.faults b }

  -- with what was appended to the log, as its own
  abbrev pub raiser : View B E → B → View B E
  raiser v b = record v { seen = M.log b; own = v.own ++ drop (length v.seen) (M.log b) }

  -- with one more failed turn
  abbrev pub failer : View B E → ℕ → B → View B E
  failer v n b = record v { failed = v.failed + 1; level = M.faults b; note = Some (raised_to n) }

  -- the ticket is not served yet, or it is, and the seat has the turn and the book
  abbrev pub looked : SeatState B E → ℕ → SeatState B E → Type 0
  looked m n w =
      (t : ℕ) × (m.0.ticket ≡ Some t)
      × (((n ≢ t % 18446744073709551616) × (w ≡ m))
      ⊎ ((n ≡ t % 18446744073709551616) × ((b : B) × Found m.0 b × (w ≡ (holder m.0 b, (0, Some b) ∷ m.1)))))

  -- the turn is held, and the book has one more entry, of the pass's own
  abbrev pub Adds : SeatState B E → Type 0
  Adds m = (m.0.has_turn ≡ true) × ((b : B) × (m.1 ≡ (0, Some b) ∷ []) × ((a : B) → m.0.origin ≡ Some a → M.reports a ≡ true → (e : E) × (M.log b ≡ m.0.seen ++ e ∷ []) × (M.owner e ≡ m.0.number)))

  -- the entries that the book got are seen, and are the pass's own
  abbrev pub raised : SeatState B E → SeatState B E → Type 0
  raised m w = (b : B) → m.1 ≡ (0, Some b) ∷ [] → w ≡ (raiser m.0 b, m.1)

  -- the turn is held with its note, and the book's count rose
  abbrev pub Fails : SeatState B E → ℕ → Type 0
  Fails m n = (m.0.has_turn ≡ true) × (m.0.note ≡ Some n) × ((b : B) × (m.1 ≡ (0, Some b) ∷ []) × Rose m.0.level (M.faults b))

  -- one more turn failed
  abbrev pub counted_failure : SeatState B E → SeatState B E → Type 0
  counted_failure m w = (n : ℕ) (b : B) → m.0.note ≡ Some n → m.1 ≡ (0, Some b) ∷ [] → w ≡ (failer m.0 n b, m.1)

  -- the turn is held, with a book that may go home
  abbrev pub IsReady : SeatState B E → Type 0
  IsReady m =
      (m.0.has_turn ≡ true)
      × ((b : B) × (m.1 ≡ (0, Some b) ∷ []) × ((a : B) → m.0.origin ≡ Some a → IsLater M a b)
      × ((a : B) → m.0.origin ≡ Some a → M.reports a ≡ true → M.log b ≡ m.0.seen) × (m.0.level ≤ M.faults b))

  -- of the entries that were appended to the first log, the pass owns its own
  abbrev pub IsOwn : View B E → Type 0
  IsOwn v = (a : B) → v.origin ≡ Some a → M.reports a ≡ true → (tail : List E) × (v.seen ≡ M.log a ++ tail) × (own_entries M.owner v.number tail ≡ v.own)

  -- the turn was handed on
  abbrev pub passed : SeatState B E → SeatState B E → Type 0
  passed m w = (w ≡ (resting m.0, [])) × IsOwn m.0

  -- of two lists that were seen the longer begins with the shorter, and no more seats are gathered than there may be
  abbrev pub compared : SeatState B E → SeatState B E → Type 0
  compared m w =
      (w ≡ (settled m.0, m.1))
      × (length (gathered m.0) ≤ 65)
      × ((a : B) → m.0.origin ≡ Some a → M.reports a ≡ true → length m.0.shorter ≤ length m.0.seen → StartsWith m.0.shorter m.0.seen)
