-- What callers see of a lock and of a pass (this project's own).
use Rattle.std.specs.Prelude.{◌≡◌, ℕ, false, List, [], ◌∷◌, ◌++◌, length, map, max, Option, Some, None}
use Rattle.atomic_table.specs.Seated.{TableId}
use Rattle.turn_lock.specs.declared.view.View.{View}
use Rattle.turn_lock.specs.declared.view.Beside.{Beside}
use Rattle.turn_lock.specs.Log.{longer}
use Rattle.turn_lock.specs.Views.{number_of, numbers_in}
use Rattle.turn_lock.specs.Steps.{SeatState, Rests}

-- which lock it is, and how many seats it has
pub record Lock : Type 0 where
  pub table : TableId
  pub seats : ℕ

-- what a pass knows
pub record Known (B E : Type 0) : Type 0 where
  -- which lock is meant
  pub table : TableId
  pub number : ℕ
  -- the book as it was at `new`
  pub first : Option B
  -- the log as the pass last saw it
  pub seen : List E
  -- the entries of its own turns
  pub own : List E
  -- how many of its turns failed
  pub failed : ℕ
  -- the passes that were joined into it
  pub beside : List (Beside E)
  -- at least so many numbers were drawn, the least ones
  pub known : ℕ

module _ {B E : Type 0} where
  -- what a pass knows by its seat
  abbrev pub known_of : TableId → View B E → Known B E
  known_of table v = record { table = table; number = v.number; first = v.origin; seen = v.seen; own = v.own; failed = v.failed; beside = v.beside; known = v.known }

  -- a pass that took no turn, where at least so many numbers were drawn
  abbrev pub new_pass : TableId → ℕ → Option B → List E → ℕ → Known B E
  new_pass table n first log known = record { table = table; number = n; first = first; seen = log; own = []; failed = 0; beside = []; known = known }

  -- the number of the pass, and those of the passes that were joined into it
  abbrev pub numbers : Known B E → List ℕ
  numbers p = p.number ∷ map number_of p.beside

  -- what is kept of a pass that is joined into another
  abbrev pub kept : Known B E → Beside E
  kept p = record { number = p.number; own = p.own; failed = p.failed }

  -- the first pass with what the second knew
  abbrev pub joined : Known B E → Known B E → Known B E
  joined p q = record p { seen = longer p.seen q.seen; beside = (p.beside ++ kept q ∷ []) ++ q.beside; known = max p.known q.known }

  -- a fact about the book as it was at `new`
  abbrev pub OfFirst : Known B E → (B → Type 0) → Type 0
  OfFirst p P = (a : B) → p.first ≡ Some a → P a

  -- between two calls: the pass takes no turn, and its numbers are those of its seat
  pub record IsIdle (me : SeatState B E) (number known count : ℕ) : Type 0 where
    pub rests : Rests me
    pub number_is : number ≡ me.0.number
    pub known_is : known ≡ me.0.known
    pub count_is : count ≡ length (numbers_in me.0)
    pub unreserved : me.0.reserved ≡ None
    pub unsealed : me.0.sealed ≡ false
