-- Where a text is cut in two at a mark, a byte that is left out of both parts.
use Rattle.std.specs.Prelude.{◌≡◌, ℕ, List, ◌∷◌, ◌++◌, Contains}

-- the parts before and after the first mark
pub record IsCutAtFirst (mark : ℕ) (text front back : List ℕ) : Type 0 where
  pub whole : text ≡ front ++ mark ∷ back
  pub first : ¬ Contains front mark

-- the parts before and after the last mark
pub record IsCutAtLast (mark : ℕ) (text front back : List ℕ) : Type 0 where
  pub whole : text ≡ front ++ mark ∷ back
  pub last : ¬ Contains back mark
