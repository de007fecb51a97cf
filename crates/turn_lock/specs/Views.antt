-- What a seat knows, and how it changes where seats are made, split and joined (this project's own).
use Rattle.std.specs.Prelude.{ℕ, false, List, [], ◌∷◌, ◌++◌, map, max, Option, Some, None}
use Rattle.turn_lock.specs.declared.view.View.{View}
use Rattle.turn_lock.specs.declared.view.Beside.{Beside}
use Rattle.turn_lock.specs.Log.{longer, shorter}

-- none or one, as a list
abbrev pub in_list : Option ℕ → List ℕ
in_list None = []
in_list (Some n) = n ∷ []

-- the numbers, unless the seat is spent
abbrev pub if_live : {B : Type 0} → Option B → List ℕ → List ℕ
if_live None ns = []
if_live (Some a) ns = ns

-- the number, or 0
abbrev pub number_or : Option ℕ → ℕ
number_or None = 0
number_or (Some n) = n

-- the number of a joined pass
abbrev pub number_of : {E : Type 0} → Beside E → ℕ
number_of x = x.number

module _ {B E : Type 0} where
  -- a pass that took no turn
  abbrev pub new_view : ℕ → Option B → List E → View B E
  new_view n first log
      = record {
        number = n;
        origin = first;
        ticket = None;
        has_turn = false;
        seen = log;
        own = [];
        failed = 0;
        level = 0;
        note = None;
        beside = [];
        shorter = [];
        reserved = None;
        known = 1;
        sealed = false;
      }

  -- what is left of a pass that was joined into another
  abbrev pub spent_view : View B E
  spent_view = new_view 0 None []

  -- its number, and those of the passes that were joined into it
  abbrev pub numbers_in : View B E → List ℕ
  numbers_in v = v.number ∷ map number_of v.beside

  -- these, unless it is spent
  abbrev pub gathered : View B E → List ℕ
  gathered v = if_live v.origin (numbers_in v)

  -- these, and the number that it reserved
  abbrev pub held : View B E → List ℕ
  held v = in_list v.reserved ++ gathered v

  -- the pass once the reserved number was given away
  abbrev pub left_with : View B E → View B E
  left_with v = record v { reserved = None }

  -- the new pass, which has that number
  abbrev pub split_to : View B E → View B E
  split_to v = record (new_view (number_or v.reserved) v.origin v.seen) { known = v.known }

  -- what is kept of a pass that is joined
  abbrev pub kept_of : View B E → Beside E
  kept_of w = record { number = w.number; own = w.own; failed = w.failed }

  -- the first pass with what the second knew
  abbrev pub joined_view : View B E → View B E → View B E
  joined_view v w = record v { seen = longer v.seen w.seen; beside = (v.beside ++ kept_of w ∷ []) ++ w.beside; shorter = []; known = max v.known w.known }

  -- the same, while both lists are still to be compared
  abbrev pub joining : View B E → View B E → View B E
  joining v w = record (joined_view v w) { shorter = shorter v.seen w.seen }
