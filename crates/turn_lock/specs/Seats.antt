-- Which numbers were drawn, and who holds them (this project's own). A view holds the numbers that it gathered and the one
-- that it reserved.
use Rattle.std.specs.Prelude.{◌≡◌, ℕ, ◌+◌, ◌-◌, ◌==◌, if◌then◌else◌, List, [], ◌∷◌, ◌++◌, length, nat_lt, replicate}

-- how often n is in the list
abbrev pub times : ℕ → List ℕ → ℕ
times n [] = 0
times n (x ∷ xs) = (if x == n then 1 else 0) + times n xs

-- 1 below r, and 0 from r on
abbrev pub once_below : ℕ → ℕ → ℕ
once_below n r = if nat_lt n r then 1 else 0

module _ {V : Type 0} where
  -- the sum of f over the list
  abbrev pub total : (V → ℕ) → List V → ℕ
  total f [] = 0
  total f (v ∷ vs) = f v + total f vs

  -- each number below r is held by one view, once, and no other number is held
  pub record Seated (held : V → List ℕ) (r : ℕ) (views : List V) : Type 0 where
    pub each : (n : ℕ) → total (λ v. times n (held v)) views ≡ once_below n r
    pub all : total (λ v. length (held v)) views ≡ r

-- r ones, then m zeros
abbrev pub flag_list : ℕ → ℕ → List ℕ
flag_list r m = replicate r 1 ++ replicate m 0

-- the flags: the first r are 1, and the others 0
abbrev pub flags : ℕ → ℕ → List ℕ
flags r seats = flag_list r (seats - r)
