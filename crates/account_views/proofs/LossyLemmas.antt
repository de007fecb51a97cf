-- What is made of any bytes by putting U+FFFD for what isn't UTF-8 is text.
use Rattle.std.proofs.Common.{◌≡◌, ℕ, zero, suc, ◌+◌, ◌<◌, ◌≤◌, ◌==◌, Bool, true, false, if◌then◌else◌, nat_lt, unwrap_or, List, [], ◌∷◌, ◌++◌, Option, Some, None, length, take, drop, refl, subst, ap, ◌∙◌, arith}
use Rattle.std.proofs.Math.Seq.{take-length}
use Rattle.std.proofs.Math.Utf8.{encode}
use Rattle.std.proofs.lemmas.Bool.{eqb-true}
use Rattle.std.proofs.lemmas.Bool.Decides.{eqb_tells}
use Rattle.std.proofs.lemmas.List.{length-drop}
use Rattle.std.proofs.lemmas.Str.{IsUtf8-append, IsUtf8-encode, IsUtf8-from_is_utf8, IsUtf8-nil, utf8_valid_len_le}
use Rattle.std.specs.Int.{is_in_range}
use Rattle.std.specs.List.{slice_index}
use Rattle.std.specs.Str.{IsUtf8, is_utf8}
use Rattle.std.specs.Str.Lossy.{after_first_chunk, error_len_after_one, error_len_after_two, error_len_of_some, replacement_bytes, second_byte_max, second_byte_min, utf8_error_len, utf8_invalid_len, utf8_lossy, utf8_lossy_within, utf8_valid_len, valid_len_up_to}
use Rattle.account_views.proofs.WalkLemmas.{either}

-- ---- the front

-- the front that was found is text
found_at : (bs : List ℕ) (n : ℕ) (b : Bool) → is_utf8 (take (suc n) bs) ≡ b → IsUtf8 (take (valid_len_up_to bs n) bs)
    → IsUtf8 (take (if b then suc n else valid_len_up_to bs n) bs)
found_at bs n true is shorter = IsUtf8-from_is_utf8 (take (suc n) bs) is
found_at bs n false is shorter = shorter

found_front : (bs : List ℕ) (n : ℕ) → IsUtf8 (take (valid_len_up_to bs n) bs)
found_front bs zero = IsUtf8-nil
found_front bs (suc n) = found_at bs n (is_utf8 (take (suc n) bs)) refl (found_front bs n)

valid_front : (bs : List ℕ) → IsUtf8 (take (utf8_valid_len bs) bs)
unfolding utf8_valid_len
valid_front bs = found_front bs (length bs)

-- ---- what is replaced

replacement_text : IsUtf8 replacement_bytes
unfolding encode
replacement_text = IsUtf8-encode 0xFFFD refl

-- an invalid sequence has a byte, where there is one
invalid_some : (bs : List ℕ) → 0 < length bs → 0 < utf8_invalid_len bs
unfolding utf8_error_len
invalid_some bs some =
    let P : Option ℕ → Type 0 = λ o. 0 < unwrap_or o (length bs) in
    let one : P (Some 1) = omega arith in
    let two : P (Some 2) = omega arith in
    let three : P (Some 3) = omega arith in
    let after_three = either P (nat_lt (length bs) 4) None (Some 3) some three in
    let after_two : P (error_len_after_two bs) = either P (nat_lt (length bs) 3) None _ some (either P (is_in_range 0x80 0xBF (slice_index bs 2)) _ (Some 2) after_three two) in
    let first = slice_index bs 0 in
    let after_one : P (error_len_after_one bs) =
    either P (nat_lt (length bs) 2) None _ some
    (either P (is_in_range (second_byte_min first) (second_byte_max first) (slice_index bs 1)) (error_len_after_two bs) (Some 1) after_two one) in
    either P (length bs == 0) None (error_len_of_some bs) some (either P (is_in_range 0xC2 0xF4 first) (error_len_after_one bs) (Some 1) after_one one)

-- so fewer bytes are left
fewer : (bs : List ℕ) → (utf8_valid_len bs == length bs) ≡ false → length (after_first_chunk bs) < length bs
fewer bs is =
    let n = utf8_valid_len bs in
    let within : n ≤ length bs = utf8_valid_len_le bs in
    let short : n < length bs = grind (arith, eqb_tells) in
    let invalid : 0 < utf8_invalid_len (drop n bs) = invalid_some (drop n bs) (omega (arith, length-drop n bs)) in
    omega (arith, length-drop (n + utf8_invalid_len (drop n bs)) bs)

-- ---- the whole

lossy_at : (k : ℕ) (bs : List ℕ) (b : Bool) → (utf8_valid_len bs == length bs) ≡ b → (b ≡ false → IsUtf8 (utf8_lossy_within k (after_first_chunk bs)))
    → IsUtf8 (if b then bs else take (utf8_valid_len bs) bs ++ (replacement_bytes ++ utf8_lossy_within k (after_first_chunk bs)))
lossy_at k bs true is rest = subst IsUtf8 (ap (λ n. take n bs) (eqb-true (utf8_valid_len bs) (length bs) is) ∙ take-length bs) (valid_front bs)
lossy_at k bs false is rest = IsUtf8-append _ _ (valid_front bs) (IsUtf8-append _ _ replacement_text (rest refl))

lossy_within : (k : ℕ) (bs : List ℕ) → length bs ≤ k → IsUtf8 (utf8_lossy_within k bs)
lossy_within zero [] le = IsUtf8-nil
lossy_within zero (b ∷ bs) le = absurd (omega arith)
lossy_within (suc k) bs le =
    lossy_at k bs (utf8_valid_len bs == length bs) refl
    (λ is. lossy_within k (after_first_chunk bs) (let less : length (after_first_chunk bs) < length bs = fewer bs is in omega arith))

pub IsUtf8-utf8_lossy : (bs : List ℕ) → IsUtf8 (utf8_lossy bs)
unfolding utf8_lossy
IsUtf8-utf8_lossy bs = lossy_within (length bs) bs (omega arith)
