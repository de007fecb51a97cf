-- base64url by bits is base64url by groups of three bytes, as the library below counts it.
use Rattle.std.proofs.Common.{◌≡◌, ℕ, zero, suc, ◌+◌, ◌-◌, ◌*◌, ◌/◌, ◌%◌, ◌^◌, ◌<◌, ◌==◌, not, true, Ok, All, Contains, List, [], ◌∷◌, ◌++◌, length, get_or, drop, slice_index, refl, sym, ap, ◌∙◌, arith}
use Rattle.std.specs.List.{range_with_len}
use Rattle.std.proofs.Math.Nat.{mod-lt}
use Rattle.std.proofs.lemmas.Bool.{agree_below_at, eq-eqb, eqb-true}
use Rattle.std.proofs.lemmas.List.{append-nil, drop_all, get_or_default}
use Rattle.std.proofs.lemmas.List.Elements.{All-contains, All-map, Contains-get_or}
use Rattle.std.proofs.lemmas.List.FromFn.{fill_by_all, length-map-range_with_len}
use Rattle.base64.specs.Engines.{url_safe_no_pad}
use Rattle.base64.specs.GeneralPurpose.{IsEncodedOver, decode_of, encode_of, encoded_size_of, engine_symbols}
use Rattle.base64.specs.Rfc4648.{encode_symbols}
use Rattle.base64.proofs.EngineFacts.{decode_of-encode_of}
use Rattle.crypto_text.specs.Rfc4648.{IsBytes, base64url, bit_at, six_at, sixes_of, url_safe_letters}

-- ---- a byte by its bits

-- the six high bits
high_six : (a : ℕ) → a < 256 → a / 128 % 2 * 32 + a / 64 % 2 * 16 + a / 32 % 2 * 8 + a / 16 % 2 * 4 + a / 8 % 2 * 2 + a / 4 % 2 ≡ a / 4
high_six a lt = eqb-true _ _ (agree_below_at
    (λ k. (k / 128 % 2 * 32 + k / 64 % 2 * 16 + k / 32 % 2 * 8 + k / 16 % 2 * 4 + k / 8 % 2 * 2 + k / 4 % 2) == (k / 4)) (λ k. true) 256 a refl lt)

-- the two low bits, with four bits behind them
low_two : (a : ℕ) → a < 256 → a / 2 % 2 * 32 + a / 1 % 2 * 16 ≡ a % 4 * 16
low_two a lt = eqb-true _ _ (agree_below_at (λ k. (k / 2 % 2 * 32 + k / 1 % 2 * 16) == (k % 4 * 16)) (λ k. true) 256 a refl lt)

-- the four high bits
high_four : (b : ℕ) → b < 256 → b / 128 % 2 * 8 + b / 64 % 2 * 4 + b / 32 % 2 * 2 + b / 16 % 2 ≡ b / 16
high_four b lt = eqb-true _ _ (agree_below_at (λ k. (k / 128 % 2 * 8 + k / 64 % 2 * 4 + k / 32 % 2 * 2 + k / 16 % 2) == (k / 16)) (λ k. true) 256 b refl lt)

-- the four low bits, with two bits behind them
low_four : (b : ℕ) → b < 256 → b / 8 % 2 * 32 + b / 4 % 2 * 16 + b / 2 % 2 * 8 + b / 1 % 2 * 4 ≡ b % 16 * 4
low_four b lt = eqb-true _ _ (agree_below_at (λ k. (k / 8 % 2 * 32 + k / 4 % 2 * 16 + k / 2 % 2 * 8 + k / 1 % 2 * 4) == (k % 16 * 4)) (λ k. true) 256 b refl lt)

-- the two high bits
high_two : (c : ℕ) → c < 256 → c / 128 % 2 * 2 + c / 64 % 2 ≡ c / 64
high_two c lt = eqb-true _ _ (agree_below_at (λ k. (k / 128 % 2 * 2 + k / 64 % 2) == (k / 64)) (λ k. true) 256 c refl lt)

-- the six low bits
low_six : (c : ℕ) → c < 256 → c / 32 % 2 * 32 + c / 16 % 2 * 16 + c / 8 % 2 * 8 + c / 4 % 2 * 4 + c / 2 % 2 * 2 + c / 1 % 2 ≡ c % 64
low_six c lt = eqb-true _ _ (agree_below_at
    (λ k. (k / 32 % 2 * 32 + k / 16 % 2 * 16 + k / 8 % 2 * 8 + k / 4 % 2 * 4 + k / 2 % 2 * 2 + k / 1 % 2) == (k % 64)) (λ k. true) 256 c refl lt)

-- ---- sixes of three bytes

six_0 : (a : ℕ) (rest : List ℕ) → a < 256 → six_at (a ∷ rest) 0 ≡ a / 4
unfolding six_at bit_at
six_0 a rest lt = high_six a lt

six_1 : (a b : ℕ) (rest : List ℕ) → a < 256 → b < 256 → six_at (a ∷ b ∷ rest) 1 ≡ a % 4 * 16 + b / 16
unfolding six_at bit_at
six_1 a b rest a_lt b_lt = omega (arith, low_two a a_lt, high_four b b_lt)

six_1_last : (a : ℕ) → a < 256 → six_at (a ∷ []) 1 ≡ a % 4 * 16
unfolding six_at bit_at
six_1_last a lt = omega (arith, low_two a lt)

six_2 : (a b c : ℕ) (rest : List ℕ) → b < 256 → c < 256 → six_at (a ∷ b ∷ c ∷ rest) 2 ≡ b % 16 * 4 + c / 64
unfolding six_at bit_at
six_2 a b c rest b_lt c_lt = omega (arith, low_four b b_lt, high_two c c_lt)

six_2_last : (a b : ℕ) → b < 256 → six_at (a ∷ b ∷ []) 2 ≡ b % 16 * 4
unfolding six_at bit_at
six_2_last a b lt = omega (arith, low_four b lt)

six_3 : (a b c : ℕ) (rest : List ℕ) → c < 256 → six_at (a ∷ b ∷ c ∷ rest) 3 ≡ c % 64
unfolding six_at bit_at
six_3 a b c rest lt = low_six c lt

-- three bytes are 24 bits
bit_at-skip : (a b c : ℕ) (rest : List ℕ) (j k : ℕ) → k ≡ 24 + j → bit_at (a ∷ b ∷ c ∷ rest) k ≡ bit_at rest j
unfolding bit_at
bit_at-skip a b c rest j k is =
    let byte : k / 8 ≡ suc (suc (suc (j / 8))) = omega arith in
    let bit : k % 8 ≡ j % 8 = omega arith in
    rw (byte, bit) refl

-- and four sixes
six_at-skip : (a b c : ℕ) (rest : List ℕ) (i : ℕ) → six_at (a ∷ b ∷ c ∷ rest) (suc (suc (suc (suc i)))) ≡ six_at rest i
unfolding six_at
six_at-skip a b c rest i =
    let at : (n : ℕ) → bit_at (a ∷ b ∷ c ∷ rest) (6 * suc (suc (suc (suc i))) + n) ≡ bit_at rest (6 * i + n)
    = λ n. bit_at-skip a b c rest (6 * i + n) (6 * suc (suc (suc (suc i))) + n) (omega arith) in
    let first = bit_at-skip a b c rest (6 * i) (6 * suc (suc (suc (suc i)))) (omega arith) in
    rw (first, at 1, at 2, at 3, at 4, at 5) refl

-- the library's symbols are the letters of the sixes
symbol_at : (t m : List ℕ) (i : ℕ) → IsBytes m → i < sixes_of (length m) → get_or (encode_symbols t m) i 0 ≡ slice_index t (six_at m i)
unfolding encode_symbols
symbol_at t [] i bytes lt = absurd (omega arith)
symbol_at t (a ∷ []) zero bytes lt = ap (slice_index t) (sym (six_0 a [] (bytes 0)))
symbol_at t (a ∷ []) (suc zero) bytes lt = ap (slice_index t) (sym (six_1_last a (bytes 0)))
symbol_at t (a ∷ []) (suc (suc i)) bytes lt = absurd (omega arith)
symbol_at t (a ∷ b ∷ []) zero bytes lt = ap (slice_index t) (sym (six_0 a (b ∷ []) (bytes 0)))
symbol_at t (a ∷ b ∷ []) (suc zero) bytes lt = ap (slice_index t) (sym (six_1 a b [] (bytes 0) (bytes 1)))
symbol_at t (a ∷ b ∷ []) (suc (suc zero)) bytes lt = ap (slice_index t) (sym (six_2_last a b (bytes 1)))
symbol_at t (a ∷ b ∷ []) (suc (suc (suc i))) bytes lt = absurd (omega arith)
symbol_at t (a ∷ b ∷ c ∷ rest) zero bytes lt = ap (slice_index t) (sym (six_0 a (b ∷ c ∷ rest) (bytes 0)))
symbol_at t (a ∷ b ∷ c ∷ rest) (suc zero) bytes lt = ap (slice_index t) (sym (six_1 a b (c ∷ rest) (bytes 0) (bytes 1)))
symbol_at t (a ∷ b ∷ c ∷ rest) (suc (suc zero)) bytes lt = ap (slice_index t) (sym (six_2 a b c rest (bytes 1) (bytes 2)))
symbol_at t (a ∷ b ∷ c ∷ rest) (suc (suc (suc zero))) bytes lt = ap (slice_index t) (sym (six_3 a b c rest (bytes 2)))
symbol_at t (a ∷ b ∷ c ∷ rest) (suc (suc (suc (suc i)))) bytes lt =
    symbol_at t rest i (λ k. bytes (suc (suc (suc k)))) (omega arith) ∙ ap (slice_index t) (sym (six_at-skip a b c rest i))

length-encode_symbols : (t m : List ℕ) → length (encode_symbols t m) ≡ sixes_of (length m)
unfolding encode_symbols
length-encode_symbols t [] = refl
length-encode_symbols t (a ∷ []) = refl
length-encode_symbols t (a ∷ b ∷ []) = refl
length-encode_symbols t (a ∷ b ∷ c ∷ rest) = omega (arith, length-encode_symbols t rest)

letters-are : engine_symbols url_safe_no_pad ≡ url_safe_letters
unfolding url_safe_letters
letters-are = refl

-- the encoding of the library is base64url
pub encode_of-base64url : (m : List ℕ) → IsBytes m → encode_of url_safe_no_pad m ≡ base64url m
unfolding base64url
encode_of-base64url m bytes =
    let long = length-encode_symbols url_safe_letters m in
    let symbols = fill_by_all (λ i. slice_index url_safe_letters (six_at m i)) (encode_symbols url_safe_letters m) (sixes_of (length m)) 0 long
    (λ k lt. symbol_at url_safe_letters m k bytes lt) in
    append-nil (encode_symbols (engine_symbols url_safe_no_pad) m) ∙ ap (λ (t : List ℕ). encode_symbols t m) letters-are ∙ symbols

-- bytes are told by what they are written as
pub base64url-injective : (a b : List ℕ) → IsBytes a → IsBytes b → base64url a ≡ base64url b → a ≡ b
base64url-injective a b a_bytes b_bytes same =
    let texts : encode_of url_safe_no_pad a ≡ encode_of url_safe_no_pad b
    = encode_of-base64url a a_bytes ∙ same ∙ sym (encode_of-base64url b b_bytes) in
    let back = sym (decode_of-encode_of url_safe_no_pad a refl a_bytes) ∙ ap (decode_of url_safe_no_pad) texts ∙ decode_of-encode_of url_safe_no_pad b refl b_bytes in
    cc back

-- the library decodes what bytes are written as to these bytes
pub decode_of-base64url : (b : List ℕ) → IsBytes b → decode_of url_safe_no_pad (base64url b) ≡ Ok b
decode_of-base64url b bytes = ap (decode_of url_safe_no_pad) (sym (encode_of-base64url b bytes)) ∙ decode_of-encode_of url_safe_no_pad b refl bytes

-- 32 bytes written over 43 places are all that stands there
pub base64url-written : (m old new : List ℕ) → IsBytes m → length m ≡ 32 → length old ≡ 43 → IsEncodedOver url_safe_no_pad m old new → new ≡ base64url m
base64url-written m old new bytes long room written =
    let none : drop (encoded_size_of url_safe_no_pad (length m)) old ≡ [] = rw long (drop_all 43 old (omega arith)) in
    written ∙ ap (λ (rest : List ℕ). encode_of url_safe_no_pad m ++ rest) none ∙ append-nil _ ∙ encode_of-base64url m bytes

-- 8 bits a byte, 6 bits a character
pub length-base64url : (m : List ℕ) → length (base64url m) ≡ sixes_of (length m)
unfolding base64url
length-base64url m = length-map-range_with_len (λ i. slice_index url_safe_letters (six_at m i)) 0 (sixes_of (length m))

-- ---- characters

bit_at-below : (m : List ℕ) (j : ℕ) → bit_at m j < 2
unfolding bit_at
bit_at-below m j = mod-lt (slice_index m (j / 8) / 2 ^ (7 - j % 8)) (omega arith)

six_at-below : (m : List ℕ) (i : ℕ) → six_at m i < 64
unfolding six_at
six_at-below m i = omega (
  arith,
  bit_at-below m (6 * i),
  bit_at-below m (6 * i + 1),
  bit_at-below m (6 * i + 2),
  bit_at-below m (6 * i + 3),
  bit_at-below m (6 * i + 4),
  bit_at-below m (6 * i + 5),
)

length-url_safe_letters : length url_safe_letters ≡ 64
unfolding url_safe_letters
length-url_safe_letters = refl

-- only the 64 characters stand in what is written
pub AreLetters-base64url : (m : List ℕ) → All (Contains url_safe_letters) (base64url m)
unfolding base64url
AreLetters-base64url m = All-map (Contains url_safe_letters) (λ i. slice_index url_safe_letters (six_at m i)) (range_with_len 0 (sixes_of (length m)))
    (λ k d lt. let place : ℕ = get_or (range_with_len 0 (sixes_of (length m))) k d in
    Contains-get_or url_safe_letters (six_at m place) 0 (omega (arith, length-url_safe_letters, six_at-below m place)))

-- a character that is none of the 64 doesn't stand in it
pub base64url-lacks : (m : List ℕ) (c : ℕ) → ¬ (Contains url_safe_letters c) → ¬ (Contains (base64url m) c)
base64url-lacks m c other found = other (All-contains (Contains url_safe_letters) (base64url m) c (AreLetters-base64url m) found)

-- `:` is none of the 64
pub url_safe_letters-no_colon : ¬ (Contains url_safe_letters 58)
unfolding url_safe_letters
url_safe_letters-no_colon found =
    let other = agree_below_at (λ k. not (slice_index url_safe_letters k == 58)) (λ k. true) 64 found.0 refl found.1 in
    let same : slice_index url_safe_letters found.0 == 58 ≡ true = eq-eqb _ 58 (get_or_default url_safe_letters found.0 0 58 found.1 ∙ found.2) in
    cc (other, ap not same)

-- nor is `.`
pub url_safe_letters-no_dot : ¬ (Contains url_safe_letters 46)
unfolding url_safe_letters
url_safe_letters-no_dot found =
    let other = agree_below_at (λ k. not (slice_index url_safe_letters k == 46)) (λ k. true) 64 found.0 refl found.1 in
    let same : slice_index url_safe_letters found.0 == 46 ≡ true = eq-eqb _ 46 (get_or_default url_safe_letters found.0 0 46 found.1 ∙ found.2) in
    cc (other, ap not same)
