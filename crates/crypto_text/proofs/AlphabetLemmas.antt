-- What the tables of letters say, computed once over their places.
use Rattle.std.proofs.Common.{◌≡◌, ℕ, ◌+◌, ◌*◌, ◌^◌, ◌<◌, ◌≤◌, nat_lt, true, List, [], ◌∷◌, ◌++◌, length, get_or, take, slice_index, All, Contains, refl, ap, ◌∙◌, arith}
use Rattle.std.proofs.Math.Nat.{mul-lt-mul_of_pos_right}
use Rattle.std.proofs.lemmas.Bool.{agree_below_at, ltb-true}
use Rattle.std.proofs.lemmas.List.{map-append, take_more}
use Rattle.std.proofs.lemmas.List.Elements.{All-map, Contains-get_or}
use Rattle.std.proofs.lemmas.Nat.{div_below}
use Rattle.crypto_text.specs.Alphabet.{letter_for, letters62, place_of, random_text, session36}

pub length-session36 : length session36 ≡ 36
unfolding session36
length-session36 = refl

pub length-letters62 : length letters62 ≡ 62
unfolding letters62
length-letters62 = refl

-- the letters are ASCII
pub ascii_in_session36 : (place : ℕ) → place < length session36 → slice_index session36 place < 128
unfolding session36
ascii_in_session36 place lt = ltb-true _ 128 (agree_below_at (λ k. nat_lt (slice_index session36 k) 128) (λ k. true) 36 place refl lt)

pub ascii_in_letters62 : (place : ℕ) → place < length letters62 → slice_index letters62 place < 128
unfolding letters62
ascii_in_letters62 place lt = ltb-true _ 128 (agree_below_at (λ k. nat_lt (slice_index letters62 k) 128) (λ k. true) 62 place refl lt)

-- one more word picks one more letter
pub random_text-more : (letters words : List ℕ) (i : ℕ) → i < length words
    → random_text letters (take (i + 1) words) ≡ random_text letters (take i words) ++ letter_for letters (get_or words i 0) ∷ []
random_text-more letters words i lt =
    ap (random_text letters) (take_more words i 0 lt) ∙ map-append (letter_for letters) (take i words) (get_or words i 0 ∷ [])

-- the place that a word of 32 bits picks is within
place_of-below : (word size : ℕ) → 1 ≤ size → word < 2 ^ 32 → place_of word size < size
place_of-below word size some lt =
    let product : word * size < 2 ^ 32 * size = mul-lt-mul_of_pos_right lt some in
    div_below (word * size) (2 ^ 32) size (omega arith) (omega arith)

-- words of 32 bits pick letters alone
pub AreLetters-random_text : (letters words : List ℕ) → 1 ≤ length letters → All (λ word. word < 2 ^ 32) words → All (Contains letters) (random_text letters words)
AreLetters-random_text letters words some below = All-map (Contains letters) (letter_for letters) words
    (λ k d lt. Contains-get_or letters (place_of (get_or words k d) (length letters)) 0 (place_of-below (get_or words k d) (length letters) some (below k d lt)))
