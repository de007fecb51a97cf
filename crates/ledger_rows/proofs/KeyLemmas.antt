-- Whether a key is among the keys, and whether there is room for one more.
use Rattle.std.proofs.Common.{◌≡◌, ◌<◌, ◌||◌, ℕ, zero, suc, Bool, true, false, not, nat_lt, List, [], ◌∷◌, Contains, bytes_eq, length, ap, refl, arith}
use Rattle.std.specs.Bool.{Decides}
use Rattle.std.specs.Prelude.{slice_index_or}
use Rattle.std.proofs.lemmas.Bool.Decides.{nat_tests}
use Rattle.std.proofs.lemmas.Slice.Eq.{bytes_eq-Decides}
use Rattle.ledger_rows.specs.KeySteps.{is_full, is_held}

-- a key that isn't the first is among the others
in_rest : (b : Bool) (first key : List ℕ) (rest : List (List ℕ)) → ¬ (first ≡ key) → Decides b (Contains rest key)
    → (k : ℕ) → k < length (first ∷ rest) → slice_index_or (first ∷ rest) k key ≡ key → b ≡ true
in_rest b first key rest other decides zero low at = absurd (other at)
in_rest b first key rest other decides (suc k) low at = decides.1 (k, omega arith, at)

held_in : (a b : Bool) (first key : List ℕ) (rest : List (List ℕ)) → Decides a (first ≡ key) → Decides b (Contains rest key) → Decides (a || b) (Contains (first ∷ rest) key)
held_in true b first key rest same later = (λ e. (0, omega arith, same.0 refl), λ c. refl)
held_in false b first key rest same later = (
  λ e. let found : Contains rest key = later.0 e in (suc found.0, omega (arith, found.1), found.2),
  λ c. in_rest b first key rest (λ e. let wrong : false ≡ true = same.1 e in cc) later c.0 c.1 c.2,
)

pub is_held-Decides : (keys : List (List ℕ)) (key : List ℕ) → Decides (is_held keys key) (Contains keys key)
is_held-Decides [] key = (λ e. let wrong : false ≡ true = e in cc, λ c. absurd (omega (arith, c.1)))
is_held-Decides (first ∷ rest) key = held_in (bytes_eq first key) (is_held rest key) first key rest (bytes_eq-Decides first key) (is_held-Decides rest key)

false_by : (b : Bool) → ¬ (b ≡ true) → b ≡ false
false_by true wrong = absurd (wrong refl)
false_by false wrong = refl

pub is_held-other : (keys : List (List ℕ)) (key : List ℕ) → ¬ Contains keys key → is_held keys key ≡ false
is_held-other keys key other = false_by (is_held keys key) (λ e. other ((is_held-Decides keys key).0 e))

pub is_full-room : (keys : List (List ℕ)) → length keys < 16 → is_full keys ≡ false
is_full-room keys room = grind (arith, nat_tests)

pub is_full-end : (keys : List (List ℕ)) → length keys ≡ 16 → is_full keys ≡ true
is_full-end keys end = ap (λ n. not (nat_lt n 16)) end
