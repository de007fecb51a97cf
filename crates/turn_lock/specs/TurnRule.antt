-- The rule of the table (this project's own): what holds of words, book and views between any two steps.
use Rattle.std.specs.Prelude.{◌≡◌, ◌≢◌, ◌⊎◌, ℕ, ◌+◌, ◌%◌, ◌<◌, ◌≤◌, true, false, List, [], ◌∷◌, ◌++◌, length, Option, Some, None}
use mathlib.Core.Option.{some, none}
use mathlib.Core.Option as maybe
use lib.ListN.{get_elem?}
use Rattle.atomic_table.specs.Table.{State}
use Rattle.turn_lock.specs.declared.view.View.{View}
use Rattle.turn_lock.specs.declared.view.Beside.{Beside}
use Rattle.turn_lock.specs.Meanings.{Meanings, IsLater}
use Rattle.turn_lock.specs.Log.{own_entries, StartsWith, Each}
use Rattle.turn_lock.specs.Count.{Level}
use Rattle.turn_lock.specs.Seats.{times, total, Seated, flags}
use Rattle.turn_lock.specs.Views.{gathered, held}

-- 1 where a ticket is held
abbrev pub one_if : Option ℕ → ℕ
one_if None = 0
one_if (Some t) = 1

module _ {B E : Type 0} where
  -- how many of the views have a ticket
  abbrev pub waiting : List (View B E) → ℕ
  waiting [] = 0
  waiting (v ∷ vs) = one_if v.ticket + waiting vs

  -- both have the same ticket
  abbrev pub SameTicket : View B E → View B E → Type 0
  SameTicket v w = (t : ℕ) × (v.ticket ≡ Some t) × (w.ticket ≡ Some t)

  -- no two views of different seats are so related
  abbrev pub Distinct : (View B E → View B E → Type 0) → List (View B E) → Type 0
  Distinct R views = (i j : ℕ) (v w : View B E) → get_elem? views i ≡ some v → get_elem? views j ≡ some w → R v w → i ≡ j

  -- where one is sealed, every other is spent
  abbrev pub Seals : List (View B E) → Type 0
  Seals views = (i j : ℕ) (v w : View B E) → get_elem? views i ≡ some v → v.sealed ≡ true → get_elem? views j ≡ some w → j ≢ i → w.origin ≡ None

  -- the slot is empty, since a view has the turn
  pub record IsAway (base f : ℕ) (homes : List (maybe.Option (Option B))) (views : List (View B E)) : Type 0 where
    pub holder : ℕ
    pub view : View B E
    pub homes_is : homes ≡ none ∷ []
    pub there : get_elem? views holder ≡ some view
    pub has_it : view.has_turn ≡ true
    pub level_is : Level base f view.level

module _ {B E F : Type 0} (M : Meanings B E F) where
  -- what is kept of joined passes, where the word of faults is f and the tail was appended to the first log
  pub record Gathers (first : B) (f : ℕ) (tail : List E) (origin : Option B) (short : List E) (beside : List (Beside E)) : Type 0 where
    pub short_is : M.reports first ≡ true → StartsWith short (M.log first ++ tail)
    pub own_is : (a : B) → origin ≡ Some a → M.reports first ≡ true → Each (λ (x : Beside E). own_entries M.owner x.number tail ≡ x.own) beside
    pub failed_low : f < 18446744073709551615 → Each (λ (x : Beside E). x.failed ≤ f) beside

  -- what a view reports, where so many tickets were served and drawn
  pub record Fits (first : B) (served drawn f : ℕ) (tail : List E) (v : View B E) : Type 0 where
    pub origin_is : (a : B) → v.origin ≡ Some a → a ≡ first
    pub gone_is : v.origin ≡ None → (v.ticket ≡ None) × (v.has_turn ≡ false)
    pub in_line : (t : ℕ) → v.ticket ≡ Some t → (served ≤ t) × (t < drawn)
    pub is_first : v.has_turn ≡ true → v.ticket ≡ Some served
    pub has_seen : M.reports first ≡ true → StartsWith v.seen (M.log first ++ tail)
    pub sees_all : v.has_turn ≡ true → M.reports first ≡ true → v.seen ≡ M.log first ++ tail
    pub own_is : (a : B) → v.origin ≡ Some a → M.reports first ≡ true → own_entries M.owner v.number tail ≡ v.own
    pub failed_low : f < 18446744073709551615 → v.failed ≤ f
    pub note_is : (n : ℕ) → v.note ≡ Some n → (v.has_turn ≡ true) × (n ≡ f)
    pub gathers : Gathers first f tail v.origin v.shorter v.beside

  -- the book is in its slot, and nobody has the turn
  pub record AtHome (first : B) (f : ℕ) (tail : List E) (homes : List (maybe.Option (Option B))) (views : List (View B E)) : Type 0 where
    pub book : B
    pub homes_is : homes ≡ some (Some book) ∷ []
    pub later : IsLater M first book
    pub log_is : M.reports first ≡ true → M.log book ≡ M.log first ++ tail
    pub level_is : Level (M.faults first) f (M.faults book)
    pub nobody : (i : ℕ) (v : View B E) → get_elem? views i ≡ some v → v.has_turn ≡ false

  -- f is the word of faults, r the number of flags that are set, and the tail was appended to the first log; nothing is asked
  -- of the words that threads sleep on
  pub record TurnRule (first : B) (seats : ℕ) (s : State (Option B) (View B E)) : Type 0 where
    pub served : ℕ
    pub drawn : ℕ
    pub counted : ℕ
    pub f : ℕ
    pub r : ℕ
    pub tail : List E
    pub sleep_words : List ℕ
    pub words_are : s.words ≡ drawn % 18446744073709551616 ∷ served % 18446744073709551616 ∷ counted ∷ f ∷ (flags r seats ++ sleep_words)
    pub count_is : M.reports first ≡ true → counted ≡ length tail % 18446744073709551616
    -- tickets
    pub line : served + waiting s.views ≡ drawn
    pub apart : Distinct SameTicket s.views
    -- what each pass knows
    pub fit : (i : ℕ) (v : View B E) → get_elem? s.views i ≡ some v → Fits first served drawn f tail v
    -- flags, and the numbers that were drawn
    pub few : (r ≤ seats) × (seats ≤ 65)
    pub seated : Seated held r s.views
    pub known_low : (i : ℕ) (v : View B E) → get_elem? s.views i ≡ some v → v.known ≤ r
    pub owners : M.reports first ≡ true → (n : ℕ) → total (λ (v : View B E). times n (gathered v)) s.views ≡ 0 → own_entries M.owner n tail ≡ []
    pub seal : Seals s.views
    -- the book
    pub slot : AtHome first f tail s.homes s.views ⊎ IsAway (M.faults first) f s.homes s.views
