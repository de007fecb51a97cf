-- Tokens as two halves: the mask and the sums.
use Rattle.std.proofs.Common.{◌≡◌, ℕ, ◌+◌, ◌-◌, ◌%◌, ◌<◌, inl, inr, List, ◌++◌, length, take, map, get_or, arith, subst, ap, sym, ◌∙◌, length-append}
use Rattle.std.proofs.Math.ListN.{get_or-append}
use Rattle.std.proofs.Math.Seq.{get_or-append-add, take-append_seam}
use Rattle.std.proofs.lemmas.Grind.{same_number_lists}
use Rattle.std.proofs.lemmas.Bool.{cases_lt}
use Rattle.std.proofs.lemmas.List.{get_or-take}
use Rattle.std.specs.List.{range_with_len}
use Rattle.std.proofs.lemmas.List.FromFn.{get_or-map-range_with_len, length-map-range_with_len}
use Rattle.std.proofs.lemmas.List.Elements.{All-from_get_or, All-get_or}
use Rattle.csrf_tokens.specs.Letters.{AreLetters, IsLetter, difference_of, index_of, sum_of}
use Rattle.csrf_tokens.proofs.LetterLemmas.{IsLetter-difference_of, index_of-difference_of}
use Rattle.csrf_tokens.specs.Tokens.{Masks, masked, unmasked}

-- 32 letters written over the first half of a token leave it whole
pub length-written : (written rest : List ℕ) → length written ≡ 32 → length rest ≡ 32 → length (written ++ rest) ≡ 64
length-written written rest first second = rw length-append (omega arith)

-- and they are then its first half
pub take-written : (written mask rest : List ℕ) → length written ≡ 32 → written ≡ mask → take 32 (written ++ rest) ≡ mask
take-written written mask rest long same = rw (← long) (take-append_seam written rest ∙ same)

-- a place of the first half holds the mask's letter
get_or-first_half : (mask token : List ℕ) (k : ℕ) → take 32 token ≡ mask → k < 32 → get_or token k 0 ≡ get_or mask k 0
get_or-first_half mask token k first lt = sym (get_or-take 32 token k 0 lt) ∙ ap (λ (half : List ℕ). get_or half k 0) first

-- tokens with one first half agree at its places
pub same_first_half : (first second : List ℕ) (k : ℕ) → take 32 first ≡ take 32 second → k < 32 → get_or first k 0 ≡ get_or second k 0
same_first_half first second k same lt = get_or-first_half (take 32 second) first k same lt ∙ get_or-take 32 second k 0 lt

-- a whole token carries the secret where the mask comes first and the sums after it
pub Masks-from_halves : (secret mask token : List ℕ) → length token ≡ 64 → length mask ≡ 32 → take 32 token ≡ mask → AreLetters mask
    → ((k : ℕ) → k < 32 → IsLetter (get_or token (32 + k) 0))
    → ((k : ℕ) → k < 32 → index_of (get_or token (32 + k) 0) ≡ (index_of (get_or secret k 0) + index_of (get_or mask k 0)) % 62)
    → Masks secret token
Masks-from_halves secret mask token whole long first mask_letters letters sums = record {
  whole = whole;
  letters = All-from_get_or IsLetter token 0 (λ k lt. elim (cases_lt k 32) [
    | inl before ↦
        subst IsLetter (sym (get_or-first_half mask token k first before)) (All-get_or IsLetter mask k 0 (omega arith) mask_letters)
    | inr after ↦
        let place : 32 + (k - 32) ≡ k = omega arith in
        subst (λ (at : ℕ). IsLetter (get_or token at 0)) place (letters (k - 32) (omega arith))
  ]);
  sums = λ k lt. rw (get_or-first_half mask token k first lt) (sums k lt);
}

-- a whole token is the one under the mask where the mask comes first and the sums after it
pub masked-from_halves : (secret mask token : List ℕ) → length token ≡ 64 → length mask ≡ 32 → take 32 token ≡ mask
    → ((k : ℕ) → k < 32 → get_or token (32 + k) 0 ≡ sum_of (get_or secret k 0) (get_or mask k 0)) → token ≡ masked secret mask
unfolding masked
masked-from_halves secret mask token whole long first sums =
    let sum_at = λ (i : ℕ). sum_of (get_or secret i 0) (get_or mask i 0) in
    let rest = map sum_at (range_with_len 0 32) in
    let count : length rest ≡ 32 = length-map-range_with_len sum_at 0 32 in
    same_number_lists token (mask ++ rest) (whole ∙ sym (length-append mask rest ∙ ap (λ n. n + length rest) long ∙ ap (λ n. 32 + n) count))
    (λ k lt. elim (cases_lt k 32) [
      | inl before ↦
          let within : k < length mask = omega (arith, long) in
          get_or-first_half mask token k first before ∙ sym (get_or-append mask rest 0 k within)
      | inr after ↦
          let place : 32 + (k - 32) ≡ k = omega arith in
          let at : length mask + (k - 32) ≡ k = omega (arith, long) in
          let below : k - 32 < 32 = omega (arith, whole) in
          ap (λ n. get_or token n 0) (sym place) ∙ sums (k - 32) below
          ∙ sym (get_or-map-range_with_len sum_at 0 32 (k - 32) (k - 32) 0 below (omega arith))
          ∙ sym (get_or-append-add mask rest (k - 32) 0) ∙ ap (λ n. get_or (mask ++ rest) n 0) at
    ])

-- ---- the secret of a token

pub length-unmasked : (token : List ℕ) → length (unmasked token) ≡ 32
unfolding unmasked
length-unmasked token = length-map-range_with_len (λ i. difference_of (get_or token (32 + i) 0) (get_or token i 0)) 0 32

pub get_or-unmasked : (token : List ℕ) (k : ℕ) → k < 32 → get_or (unmasked token) k 0 ≡ difference_of (get_or token (32 + k) 0) (get_or token k 0)
unfolding unmasked
get_or-unmasked token k lt = get_or-map-range_with_len (λ i. difference_of (get_or token (32 + i) 0) (get_or token i 0)) 0 32 k k 0 lt (omega arith)

pub AreLetters-unmasked : (token : List ℕ) → length token ≡ 64 → AreLetters token → AreLetters (unmasked token)
AreLetters-unmasked token whole letters = All-from_get_or IsLetter (unmasked token) 0 (λ k lt.
    let below : k < 32 = omega (arith, length-unmasked token) in
    rw (get_or-unmasked token k below) (IsLetter-difference_of _ _
    (All-get_or IsLetter token (32 + k) 0 (omega (arith, whole)) letters) (All-get_or IsLetter token k 0 (omega (arith, whole)) letters)))

pub Masks-unmasked : (token : List ℕ) → length token ≡ 64 → AreLetters token → Masks (unmasked token) token
Masks-unmasked token whole letters = record {
  whole = whole;
  letters = letters;
  sums = λ k lt. rw (get_or-unmasked token k lt) (index_of-difference_of _ _
      (All-get_or IsLetter token (32 + k) 0 (omega (arith, whole)) letters) (All-get_or IsLetter token k 0 (omega (arith, whole)) letters));
}
