-- Numbers that are drawn, cut off, joined and counted.
use Rattle.std.proofs.Common.{◌≡◌, ◌≢◌, ℕ, zero, suc, ◌+◌, ◌<◌, ◌≤◌, ◌⊎◌, inl, inr, List, [], ◌∷◌, ◌++◌, length, replicate, ◌-◌, get_or, set, sym, refl, ap, ◌∙◌, eq-eqb, ne_eqb, arith, length-append, min, lt_of_not-le}
use mathlib.Core.Option.{some, some-injective, some-ne-none}
use mathlib.Core.Logic.{dite}
use native.Mathlib.Decide.{dec_le}
use lib.ListN.{get_elem?}
use Rattle.std.proofs.lemmas.Bool.Decides.{nat_tests}
use Rattle.turn_lock.specs.Seats.{times, once_below, total, Seated, flag_list, flags}

pub times_append : (n : ℕ) (xs ys : List ℕ) → times n (xs ++ ys) ≡ times n xs + times n ys
times_append n [] ys = omega arith
times_append n (x ∷ xs) ys = let h = times_append n xs ys in omega arith

pub times_here : (n : ℕ) → times n (n ∷ []) ≡ 1
times_here n = rw (eq-eqb n n refl) refl

pub times_else : (n x : ℕ) → x ≢ n → times n (x ∷ []) ≡ 0
times_else n x ne = rw (ne_eqb x n ne) refl

pub once_next : (n r : ℕ) → once_below n (r + 1) ≡ times n (r ∷ []) + once_below n r
once_next n r = grind (arith, nat_tests)

module _ {V : Type 0} where
  pub total_set : (f : V → ℕ) (vs : List V) (i : ℕ) (v w : V) → get_elem? vs i ≡ some v → total f (set vs i w) + f v ≡ total f vs + f w
  total_set f [] i v w e = absurd (some-ne-none v (sym e))
  total_set f (x ∷ xs) zero v w e = let same : f x ≡ f v = ap f (some-injective x v e) in omega arith
  total_set f (x ∷ xs) (suc i) v w e = let h = total_set f xs i v w e in omega arith

  pub total_snoc : (f : V → ℕ) (vs : List V) (w : V) → total f (vs ++ w ∷ []) ≡ total f vs + f w
  total_snoc f [] w = omega arith
  total_snoc f (x ∷ xs) w = let h = total_snoc f xs w in omega arith

  -- where all others count nothing
  total_none : (f : V → ℕ) (vs : List V) → ((j : ℕ) (u : V) → get_elem? vs j ≡ some u → f u ≡ 0) → total f vs ≡ 0
  total_none f [] none = refl
  total_none f (x ∷ xs) none = let a = none 0 x refl in let b = total_none f xs (λ j u e. none (suc j) u e) in omega arith

  pub total_alone : (f : V → ℕ) (vs : List V) (i : ℕ) (v : V) → get_elem? vs i ≡ some v → ((j : ℕ) (u : V) → j ≢ i → get_elem? vs j ≡ some u → f u ≡ 0) → total f vs ≡ f v
  total_alone f [] i v e none = absurd (some-ne-none v (sym e))
  total_alone f (x ∷ xs) zero v e none = let same : f x ≡ f v = ap f (some-injective x v e) in let rest = total_none f xs (λ j u at. none (suc j) u (λ z. let bad : suc j ≡ 0 = z in omega arith) at) in omega arith
  total_alone f (x ∷ xs) (suc i) v e none = let a = none 0 x (λ z. let bad : 0 ≡ suc i = z in omega arith) refl in let h = total_alone f xs i v e (λ j u other at. none (suc j) u (λ z. other (let y : j ≡ i = omega arith in y)) at) in omega arith

  pub one_of : (f : V → ℕ) (vs : List V) (i : ℕ) (v : V) → get_elem? vs i ≡ some v → f v ≤ total f vs
  one_of f [] i v e = absurd (some-ne-none v (sym e))
  one_of f (x ∷ xs) zero v e = let same : f x ≡ f v = ap f (some-injective x v e) in omega arith
  one_of f (x ∷ xs) (suc i) v e = let h = one_of f xs i v e in omega arith

  pub two_of : (f : V → ℕ) (vs : List V) (i j : ℕ) (v w : V) → j ≢ i → get_elem? vs i ≡ some v → get_elem? vs j ≡ some w → f v + f w ≤ total f vs
  two_of f [] i j v w ne a b = absurd (some-ne-none v (sym a))
  two_of f (x ∷ xs) zero zero v w ne a b = absurd (ne refl)
  two_of f (x ∷ xs) zero (suc j) v w ne a b = let same : f x ≡ f v = ap f (some-injective x v a) in let h = one_of f xs j w b in omega arith
  two_of f (x ∷ xs) (suc i) zero v w ne a b = let same : f x ≡ f w = ap f (some-injective x w b) in let h = one_of f xs i v a in omega arith
  two_of f (x ∷ xs) (suc i) (suc j) v w ne a b = let h = two_of f xs i j v w (λ e. ne (ap suc e)) a b in omega arith

  module _ (held : V → List ℕ) where
    -- a change that leaves what the view holds
    pub stays : (r : ℕ) (vs : List V) (i : ℕ) (v w : V) → get_elem? vs i ≡ some v → held w ≡ held v → Seated held r vs → Seated held r (set vs i w)
    stays r vs i v w at same s = record {
      each = λ n. let a = total_set (λ u. times n (held u)) vs i v w at in let b : times n (held w) ≡ times n (held v) = ap (λ (l : List ℕ). times n l) same in let c = s.each n in omega arith;
      all = let a = total_set (λ u. length (held u)) vs i v w at in let b : length (held w) ≡ length (held v) = ap (λ (l : List ℕ). length l) same in let c = s.all in omega arith;
    }

    -- the next number is reserved
    pub reserves : (r : ℕ) (vs : List V) (i : ℕ) (v w : V) → get_elem? vs i ≡ some v → held w ≡ r ∷ held v → Seated held r vs → Seated held (r + 1) (set vs i w)
    reserves r vs i v w at more s = record {
      each = λ n. let a = total_set (λ u. times n (held u)) vs i v w at in let b : times n (held w) ≡ times n (r ∷ held v) = ap (λ (l : List ℕ). times n l) more in let c = s.each n in
          let d = times_append n (r ∷ []) (held v) in let e = once_next n r in omega arith;
      all = let a = total_set (λ u. length (held u)) vs i v w at in let b : length (held w) ≡ suc (length (held v)) = ap (λ (l : List ℕ). length l) more in let c = s.all in omega arith;
    }

    -- the reserved number goes to a new view
    pub splits : (r : ℕ) (vs : List V) (i n : ℕ) (v left right : V) → get_elem? vs i ≡ some v → held v ≡ n ∷ held left → held right ≡ n ∷ [] → Seated held r vs → Seated held r (set vs i left ++ right ∷ [])
    splits r vs i n v left right at cut new s = record {
      each = λ m. let a = total_set (λ u. times m (held u)) vs i v left at in let z = total_snoc (λ u. times m (held u)) (set vs i left) right in
          let b : times m (held v) ≡ times m (n ∷ held left) = ap (λ (l : List ℕ). times m l) cut in let d = times_append m (n ∷ []) (held left) in
          let e : times m (held right) ≡ times m (n ∷ []) = ap (λ (l : List ℕ). times m l) new in let c = s.each m in omega arith;
      all = let a = total_set (λ u. length (held u)) vs i v left at in let z = total_snoc (λ u. length (held u)) (set vs i left) right in
          let b : length (held v) ≡ suc (length (held left)) = ap (λ (l : List ℕ). length l) cut in let e : length (held right) ≡ 1 = ap (λ (l : List ℕ). length l) new in let c = s.all in omega arith;
    }

    -- one view takes over what another holds
    pub joins : (r : ℕ) (vs : List V) (i j : ℕ) (v w both spent : V) → get_elem? vs i ≡ some v → get_elem? (set vs i both) j ≡ some w → held both ≡ held v ++ held w → held spent ≡ [] → Seated held r vs
        → Seated held r (set (set vs i both) j spent)
    joins r vs i j v w both spent at there sum none s = record {
      each = λ n. let a = total_set (λ u. times n (held u)) vs i v both at in let z = total_set (λ u. times n (held u)) (set vs i both) j w spent there in
          let b : times n (held both) ≡ times n (held v ++ held w) = ap (λ (l : List ℕ). times n l) sum in let d = times_append n (held v) (held w) in
          let e : times n (held spent) ≡ 0 = ap (λ (l : List ℕ). times n l) none in let c = s.each n in omega arith;
      all = let a = total_set (λ u. length (held u)) vs i v both at in let z = total_set (λ u. length (held u)) (set vs i both) j w spent there in
          let b : length (held both) ≡ length (held v ++ held w) = ap (λ (l : List ℕ). length l) sum in let d = length-append (held v) (held w) in
          let e : length (held spent) ≡ 0 = ap (λ (l : List ℕ). length l) none in let c = s.all in omega arith;
    }

    -- who holds as many numbers as were drawn is alone
    pub alone : (r : ℕ) (vs : List V) (i : ℕ) (v : V) → get_elem? vs i ≡ some v → r ≤ length (held v) → Seated held r vs → (j : ℕ) (u : V) → j ≢ i → get_elem? vs j ≡ some u → length (held u) ≡ 0
    alone r vs i v at as_many s j u other there = let a = two_of (λ u. length (held u)) vs i j v u other at there in let c = s.all in omega arith

    -- a number that is held is in one view, and only once there
    pub held_once : (r : ℕ) (vs : List V) (i j n : ℕ) (v w : V) → j ≢ i → get_elem? vs i ≡ some v → get_elem? vs j ≡ some w → Seated held r vs → 0 < times n (held v) → times n (held w) ≡ 0
    held_once r vs i j n v w ne a b s some_here = let h = two_of (λ u. times n (held u)) vs i j v w ne a b in let e = s.each n in let low : once_below n r ≤ 1 = grind (arith, nat_tests) in omega arith

zeros_length : (m n : ℕ) → flag_list 0 m ++ flag_list 0 n ≡ flag_list 0 (m + n)
zeros_length zero n = let e : n ≡ 0 + n = omega arith in ap (λ (k : ℕ). flag_list 0 k) e
zeros_length (suc m) n = let e : suc m + n ≡ suc (m + n) = omega arith in ap (λ (l : List ℕ). 0 ∷ l) (zeros_length m n) ∙ ap (λ (k : ℕ). flag_list 0 k) (sym e)

next_words : (m rest : ℕ) → set (replicate (suc m + 4 + rest) 0) 4 1 ≡ 0 ∷ 0 ∷ 0 ∷ 0 ∷ (flags 1 (suc m) ++ replicate rest 0)
next_words m rest = let e : suc m + 4 + rest ≡ suc (suc (suc (suc (suc (m + rest))))) = omega arith in let d : m ≡ suc m - 1 = omega arith in
    ap (λ (k : ℕ). set (replicate k 0) 4 1) e ∙ (ap (λ (l : List ℕ). 0 ∷ 0 ∷ 0 ∷ 0 ∷ 1 ∷ l) (sym (zeros_length m rest)) ∙ ap (λ (k : ℕ). 0 ∷ 0 ∷ 0 ∷ 0 ∷ 1 ∷ (replicate k 0 ++ replicate rest 0)) d)

pub first_words : (n rest : ℕ) → 1 ≤ n → set (replicate (n + 4 + rest) 0) 4 1 ≡ 0 ∷ 0 ∷ 0 ∷ 0 ∷ (flags 1 n ++ replicate rest 0)
first_words zero rest low = absurd (omega arith)
first_words (suc m) rest low = next_words m rest

flag_list_length : (r m : ℕ) → length (flag_list r m) ≡ r + m
flag_list_length zero zero = refl
flag_list_length zero (suc m) = let h = flag_list_length zero m in omega arith
flag_list_length (suc r) m = let h = flag_list_length r m in omega arith

pub flags_length : (r n : ℕ) → r ≤ n → length (flags r n) ≡ n
flags_length r n low = let h = flag_list_length r (n - r) in omega arith

-- words before, and words past
pub get_before : (xs ys : List ℕ) (i : ℕ) → i < length xs → get_or (xs ++ ys) i 0 ≡ get_or xs i 0
get_before [] ys i low = absurd (omega arith)
get_before (x ∷ xs) ys zero low = refl
get_before (x ∷ xs) ys (suc i) low = get_before xs ys i (omega arith)

pub set_before : (xs ys : List ℕ) (i x : ℕ) → i < length xs → set (xs ++ ys) i x ≡ set xs i x ++ ys
set_before [] ys i x low = absurd (omega arith)
set_before (y ∷ xs) ys zero x low = refl
set_before (y ∷ xs) ys (suc i) x low = ap (λ (l : List ℕ). y ∷ l) (set_before xs ys i x (omega arith))

set_beyond : (xs ys : List ℕ) (j x : ℕ) → set (xs ++ ys) (length xs + j) x ≡ xs ++ set ys j x
set_beyond [] ys j x = let e : 0 + j ≡ j = omega arith in ap (λ (i : ℕ). set ys i x) e
set_beyond (y ∷ xs) ys j x = let e : length (y ∷ xs) + j ≡ suc (length xs + j) = omega arith in ap (λ (i : ℕ). set (y ∷ (xs ++ ys)) i x) e ∙ ap (λ (l : List ℕ). y ∷ l) (set_beyond xs ys j x)

pub set_past : (xs ys : List ℕ) (n j x : ℕ) → length xs ≡ n → set (xs ++ ys) (n + j) x ≡ xs ++ set ys j x
set_past xs ys n j x is = ap (λ (m : ℕ). set (xs ++ ys) (m + j) x) (sym is) ∙ set_beyond xs ys j x

pub flag_set : (r m i : ℕ) → i < r → get_or (flag_list r m) i 0 ≡ 1
flag_set zero m i low = absurd (omega arith)
flag_set (suc r) m zero low = refl
flag_set (suc r) m (suc i) low = flag_set r m i (omega arith)

zeros : (m i : ℕ) → get_or (flag_list 0 m) i 0 ≡ 0
zeros zero i = refl
zeros (suc m) zero = refl
zeros (suc m) (suc i) = zeros m i

pub flag_clear : (r m i : ℕ) → r ≤ i → get_or (flag_list r m) i 0 ≡ 0
flag_clear zero m i low = zeros m i
flag_clear (suc r) m zero low = absurd (omega arith)
flag_clear (suc r) m (suc i) low = flag_clear r m i (omega arith)

pub flag_again : (r m i : ℕ) → i < r → set (flag_list r m) i 1 ≡ flag_list r m
flag_again zero m i low = absurd (omega arith)
flag_again (suc r) m zero low = refl
flag_again (suc r) m (suc i) low = ap (λ (l : List ℕ). 1 ∷ l) (flag_again r m i (omega arith))

set_next : (r m : ℕ) → set (flag_list r (suc m)) r 1 ≡ flag_list (suc r) m
set_next zero m = refl
set_next (suc r) m = ap (λ (l : List ℕ). 1 ∷ l) (set_next r m)

pub flag_next : (r n : ℕ) → r < n → set (flags r n) r 1 ≡ flags (r + 1) n
flag_next r n low = let a : n - r ≡ suc (n - (r + 1)) = omega arith in let b : suc r ≡ r + 1 = omega arith in
    ap (λ (m : ℕ). set (flag_list r m) r 1) a ∙ (set_next r (n - (r + 1)) ∙ ap (λ (k : ℕ). flag_list k (n - (r + 1))) b)

four : (i : ℕ) → i + 4 ≡ suc (suc (suc (suc i)))
four i = omega arith

pub read_after : (a b c f : ℕ) (l : List ℕ) (i : ℕ) → get_or (a ∷ b ∷ c ∷ f ∷ l) (i + 4) 0 ≡ get_or l i 0
read_after a b c f l i = ap (λ (n : ℕ). get_or (a ∷ b ∷ c ∷ f ∷ l) n 0) (four i)

pub set_after : (a b c f : ℕ) (l : List ℕ) (i x : ℕ) → set (a ∷ b ∷ c ∷ f ∷ l) (i + 4) x ≡ a ∷ b ∷ c ∷ f ∷ set l i x
set_after a b c f l i x = ap (λ (n : ℕ). set (a ∷ b ∷ c ∷ f ∷ l) n x) (four i)

pub up_is : (i : ℕ) → i + 1 ≡ i + 4 - 3
up_is i = omega arith

pub index_is : (i : ℕ) → i ≡ i + 4 - 4
index_is i = omega arith

-- the slot that a seal looks at, where so many numbers are gathered
pub seal_index : (gathered count seats slot : ℕ) → 1 ≤ seats → gathered ≡ count → slot ≡ min count (seats - 1) → (slot < seats) × ((slot ≡ gathered) ⊎ (seats ≤ gathered))
seal_index gathered count seats slot low same is = dite (dec_le seats count)
    (λ all. (omega arith, inr (let z : seats ≤ gathered = omega arith in z)))
    (λ not. let under = lt_of_not-le not in (omega arith, inl (let z : slot ≡ gathered = omega arith in z)))
