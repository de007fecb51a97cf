-- Lists of entries (this project's own).
use Rattle.std.specs.Prelude.{◌≡◌, ◌⊎◌, ℕ, ◌==◌, if◌then◌else◌, nat_lt, Bool, true, false, List, [], ◌∷◌, ◌++◌, length}

module _ {E : Type 0} where
  -- the log, with the entry appended where the flag is set
  abbrev pub grown : Bool → List E → E → List E
  grown true log e = log ++ e ∷ []
  grown false log e = log

  -- the entries whose owner is the number, in order
  abbrev pub own_entries : (E → ℕ) → ℕ → List E → List E
  own_entries owner n [] = []
  own_entries owner n (e ∷ es) = if owner e == n then e ∷ own_entries owner n es else own_entries owner n es

  -- the log begins with the log that was seen
  abbrev pub StartsWith : List E → List E → Type 0
  StartsWith seen log = (rest : List E) × (log ≡ seen ++ rest)

  -- the log is an interleaving of the two lists: each stays in its order
  abbrev pub IsInterleaving : List E → List E → List E → Type 0
  IsInterleaving xs ys [] = (xs ≡ []) × (ys ≡ [])
  IsInterleaving xs ys (e ∷ es) =
      ((rest : List E) × (xs ≡ e ∷ rest) × IsInterleaving rest ys es)
      ⊎ ((rest : List E) × (ys ≡ e ∷ rest) × IsInterleaving xs rest es)

  -- the longer of two lists, or the first
  abbrev pub longer : List E → List E → List E
  longer xs ys = if nat_lt (length xs) (length ys) then ys else xs

  -- the other one, where `longer` is the longer of two lists
  abbrev pub shorter : List E → List E → List E
  shorter xs ys = if nat_lt (length xs) (length ys) then xs else ys

  -- the fact holds of each element
  abbrev pub Each : (E → Type 0) → List E → Type 0
  Each P [] = Unit {0}
  Each P (x ∷ xs) = P x × Each P xs
