-- What the table of letters says, computed once over its 62 places.
use Rattle.std.proofs.Common.{◌≡◌, ℕ, ◌+◌, ◌-◌, ◌%◌, ◌<◌, ◌==◌, ◌&&◌, nat_lt, Bool, true, if◌then◌else◌, refl, arith, ap, sym, ◌∙◌, nat_eq}
use Rattle.std.proofs.lemmas.Bool.{agree_below_at, eqb-true}
use Rattle.std.proofs.lemmas.List.{get_or_default}
use Rattle.std.proofs.lemmas.Map.Views.{Contains-from_any, list_any-from_Contains}
use Rattle.std.specs.Bool.{Decides}
use Rattle.std.specs.Char.{is_ascii_alphanumeric}
use Rattle.std.specs.Cmp.{nat_eq_equiv}
use Rattle.std.specs.List.{list_any}
use Rattle.crypto_text.specs.Alphabet.{letters62}
use Rattle.csrf_tokens.specs.Letters.{IsLetter, difference_of, index_of, is_letter, letter_at}

-- a letter's index, by the ranges of ASCII that the code goes by
abbrev pub index_by_ranges : ℕ → ℕ
index_by_ranges c = if nat_lt 96 c then c - 97 else if nat_lt 64 c then c - 65 + 26 else c - 48 + 52

-- the byte is in one of the three ranges
abbrev pub is_in_a_range : ℕ → Bool
is_in_a_range c = if nat_lt 96 c then nat_lt c 123 else if nat_lt 64 c then nat_lt c 91 else nat_lt 47 c && nat_lt c 58

-- the letter at n counts as n
pub index_of-letter_at : (n : ℕ) → n < 62 → index_of (letter_at n) ≡ n
unfolding index_of letter_at letters62
index_of-letter_at n lt = eqb-true (index_of (letter_at n)) n (agree_below_at (λ k. index_of (letter_at k) == k) (λ k. true) 62 n refl lt)

by_ranges-letter_at : (n : ℕ) → n < 62 → index_by_ranges (letter_at n) ≡ n
unfolding letter_at letters62
by_ranges-letter_at n lt = eqb-true (index_by_ranges (letter_at n)) n (agree_below_at (λ k. index_by_ranges (letter_at k) == k) (λ k. true) 62 n refl lt)

in_a_range-letter_at : (n : ℕ) → n < 62 → is_in_a_range (letter_at n) ≡ true
unfolding letter_at letters62
in_a_range-letter_at n lt = agree_below_at (λ k. is_in_a_range (letter_at k)) (λ k. true) 62 n refl lt

-- the table holds nothing but letters
pub IsLetter-letter_at : (n : ℕ) → n < 62 → IsLetter (letter_at n)
unfolding IsLetter letter_at letters62
IsLetter-letter_at n lt = (n, lt, get_or_default letters62 n (letter_at n) 0 lt)

alphanumeric-letter_at : (n : ℕ) → n < 62 → is_ascii_alphanumeric (letter_at n) ≡ true
unfolding letter_at letters62
alphanumeric-letter_at n lt = agree_below_at (λ k. is_ascii_alphanumeric (letter_at k)) (λ k. true) 62 n refl lt

-- a letter stands in the table at some place
place_of : (c : ℕ) → IsLetter c → (n : ℕ) × (n < 62) × (letter_at n ≡ c)
unfolding IsLetter letter_at letters62
place_of c found = (found.0, found.1, get_or_default letters62 found.0 0 c found.1 ∙ found.2)

-- a letter counts as a number below 62
pub index_of-below : (c : ℕ) → IsLetter c → index_of c < 62
index_of-below c found =
    let place = place_of c found in
    let counts = index_of-letter_at place.0 place.1 in
    let is : index_of c ≡ place.0 = ap index_of (sym place.2) ∙ counts in
    omega (arith, place.1)

-- the ranges count each letter as the table does
pub index_of-by_ranges : (c : ℕ) → IsLetter c → index_by_ranges c ≡ index_of c
index_of-by_ranges c found =
    let place = place_of c found in
    ap index_by_ranges (sym place.2) ∙ by_ranges-letter_at place.0 place.1 ∙ sym (index_of-letter_at place.0 place.1) ∙ ap index_of place.2

-- a letter is in one of the ranges
pub IsLetter-in_a_range : (c : ℕ) → IsLetter c → is_in_a_range c ≡ true
IsLetter-in_a_range c found =
    let place = place_of c found in
    ap is_in_a_range (sym place.2) ∙ in_a_range-letter_at place.0 place.1

-- a letter is the one at its index
pub letter_at-index_of : (c : ℕ) → IsLetter c → letter_at (index_of c) ≡ c
letter_at-index_of c found =
    let place = place_of c found in
    ap (λ (x : ℕ). letter_at (index_of x)) (sym place.2) ∙ ap letter_at (index_of-letter_at place.0 place.1) ∙ place.2

-- letters that count the same are the same
pub index_of-injective : (a b : ℕ) → IsLetter a → IsLetter b → index_of a ≡ index_of b → a ≡ b
index_of-injective a b a_letter b_letter same = sym (letter_at-index_of a a_letter) ∙ ap letter_at same ∙ letter_at-index_of b b_letter

-- the letters are the letters and digits of ASCII
pub is_letter-alphanumeric : (c : ℕ) → c < 256 → is_ascii_alphanumeric c ≡ is_letter c
unfolding is_letter letters62
is_letter-alphanumeric c lt = agree_below_at is_ascii_alphanumeric (λ k. list_any (nat_eq k) letters62) 256 c refl lt

-- the test finds the letters
pub is_letter-Decides : (c : ℕ) → Decides (is_letter c) (IsLetter c)
unfolding IsLetter is_letter
is_letter-Decides c = (
  λ test. Contains-from_any eqb-true c letters62 test,
  λ found. list_any-from_Contains nat_eq_equiv c letters62 found,
)

-- the difference of two letters is a letter, to which the second adds up to the first
pub IsLetter-difference_of : (sum b : ℕ) → IsLetter sum → IsLetter b → IsLetter (difference_of sum b)
unfolding difference_of
IsLetter-difference_of sum b sum_letter b_letter = IsLetter-letter_at _ (omega arith)

round_trip : (s b : ℕ) → s < 62 → b < 62 → s ≡ ((s + 62 - b) % 62 + b) % 62
round_trip s b s_below b_below = omega arith

pub index_of-difference_of : (sum b : ℕ) → IsLetter sum → IsLetter b → index_of sum ≡ (index_of (difference_of sum b) + index_of b) % 62
unfolding difference_of
index_of-difference_of sum b sum_letter b_letter =
    let below : (index_of sum + 62 - index_of b) % 62 < 62 = omega arith in
    rw (index_of-letter_at _ below) (round_trip _ _ (index_of-below sum sum_letter) (index_of-below b b_letter))
