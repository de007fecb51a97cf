-- Texts that begin or end with a mark, a byte of ASCII.
use Rattle.std.specs.Prelude.{ℕ, ◌==◌, ◌-◌, nat_eq, if◌then◌else◌, List, [], ◌∷◌, length, take, Option, None, Some}
use Rattle.std.specs.List.{ends_with}

-- what follows the mark, where the text begins with it
abbrev pub after_mark : ℕ → List ℕ → Option (List ℕ)
after_mark mark [] = None
after_mark mark (c ∷ rest) = if c == mark then Some rest else None

-- what comes before the mark, where the text ends with it
unfoldable pub before_mark : ℕ → List ℕ → Option (List ℕ)
before_mark mark text = if ends_with nat_eq text (mark ∷ []) then Some (take (length text - 1) text) else None
