-- Readings of a clock, one call after another.
use Rattle.std.proofs.Common.{◌≡◌, ◌<◌, ◌+◌, ℕ, zero, suc, List, [], ◌∷◌, ◌++◌, Option, Some, None, refl, ap, ◌∙◌, length, slice_index, zero-add, arith}
use Rattle.std.proofs.Math.Path.{fun_ext}
use Rattle.outside.specs.Clock.{reading_of, with_first}

-- the readings that were given come first
pub reading_of-given : (given : List ℕ) (later : ℕ → ℕ) (k : ℕ) → k < length given → reading_of given later k ≡ slice_index given k
reading_of-given [] later k below = absurd (omega arith)
reading_of-given (now ∷ rest) later zero below = refl
reading_of-given (now ∷ rest) later (suc k) below = reading_of-given rest later k (omega arith)

-- and then those after them
pub reading_of-later : (given : List ℕ) (later : ℕ → ℕ) (k : ℕ) → reading_of given later (length given + k) ≡ later k
reading_of-later [] later k = ap later (zero-add k)
reading_of-later (now ∷ rest) later k =
    let same : suc (length rest) + k ≡ suc (length rest + k) = omega arith in
    ap (reading_of (now ∷ rest) later) same ∙ reading_of-later rest later k

reading_of-append : (a b : List ℕ) (later : ℕ → ℕ) (k : ℕ) → reading_of (a ++ b) later k ≡ reading_of a (reading_of b later) k
reading_of-append [] b later k = refl
reading_of-append (now ∷ rest) b later zero = refl
reading_of-append (now ∷ rest) b later (suc k) = reading_of-append rest b later k

-- the clock wasn't read
pub with_first-nothing : (later : Option (ℕ → ℕ)) → with_first [] later ≡ later
with_first-nothing None = refl
with_first-nothing (Some later) = ap (λ rule. Some rule) (fun_ext (λ k. refl))

-- the clock was read again
pub with_first-append : (later : Option (ℕ → ℕ)) (a b : List ℕ) → with_first (a ++ b) later ≡ with_first a (with_first b later)
with_first-append None a b = refl
with_first-append (Some later) a b = ap (λ rule. Some rule) (fun_ext (reading_of-append a b later))
