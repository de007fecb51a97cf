-- What decoding into a slice answers, by what the text decodes to.
use Rattle.std.proofs.Common.{◌≡◌, ℕ, ◌/◌, ◌≤◌, nat_lt, Bool, true, false, if◌then◌else◌, Option, Some, None, Result, Ok, Err, List, length, take, drop, refl, sym, ap, ◌∙◌, subst, arith}
use Rattle.std.specs.Option.{IfNone, IfSome}
use Rattle.std.specs.Result.{OnOk, result_ok}
use Rattle.std.proofs.lemmas.Bool.{le-ltb, ltb-false}
use Rattle.std.proofs.lemmas.List.{drop_at, take_at}
use Rattle.base64.specs.Engines.{url_safe_no_pad}
use Rattle.base64.specs.GeneralPurpose.{decode_of, decode_slice_of, decoded_bytes_of}
use Rattle.base64.specs.Decode.{IsWrittenOver, bytes_fit, decode_outcome, groups_before_last, or_else, or_error}
use Rattle.base64.specs.declared.DecodeError.{DecodeError}
use Rattle.base64.specs.declared.DecodeSliceError.{DecodeSliceError}
use Rattle.base64.specs.declared.DecodeSliceError.TheVariants.{OutputSliceTooSmall}
use Rattle.base64.proofs.EngineFacts.{decode_of_strict}
use Rattle.crypto_text.specs.Rfc4648.{IsBase64urlWithin, IsBytes, IsDecodedInto, base64url, sixes_of}
use Rattle.crypto_text.proofs.Rfc4648Lemmas.{decode_of-base64url, encode_of-base64url, length-base64url}

-- ---- the answer is Ok where the text decodes and its bytes have room

test-Ok : (small : Bool) (bytes n : ℕ) → (if small then Err OutputSliceTooSmall else Ok bytes) ≡ Ok n → (small ≡ false) × (bytes ≡ n)
test-Ok true bytes n is = cc is
test-Ok false bytes n is = (refl, cc is)

slice-Ok : (lone rest : Option DecodeError) (small : Bool) (bytes room n : ℕ)
    → or_error lone (if small then Err OutputSliceTooSmall else or_error rest (bytes_fit bytes room)) ≡ Ok n
    → (or_else lone rest ≡ None) × (bytes ≡ n) × (bytes ≤ room)
slice-Ok (Some e) rest small bytes room n is = cc is
slice-Ok None rest true bytes room n is = cc is
slice-Ok None (Some e) false bytes room n is = cc is
slice-Ok None None false bytes room n is =
    let fits = test-Ok (nat_lt room bytes) bytes n is in
    (refl, fits.1, ltb-false room bytes fits.0)

slice-from_none : (lone rest : Option DecodeError) (small : Bool) (bytes room : ℕ) → or_else lone rest ≡ None → small ≡ false → nat_lt room bytes ≡ false
    → or_error lone (if small then Err OutputSliceTooSmall else or_error rest (bytes_fit bytes room)) ≡ Ok bytes
slice-from_none (Some e) rest small bytes room none large fits = cc none
slice-from_none None (Some e) small bytes room none large fits = cc none
slice-from_none None None small bytes room none large fits = rw (large, fits) refl

-- ---- the two clauses of the call

-- what an Ok wrote is what the text says
pub IsDecodedInto-from_Ok : (s old new : List ℕ) (r : Result ℕ DecodeSliceError) → IsBytes s → r ≡ decode_slice_of url_safe_no_pad s (length old)
    → OnOk r (IsWrittenOver (decoded_bytes_of url_safe_no_pad s) old new) → OnOk r (IsBytes (decoded_bytes_of url_safe_no_pad s))
    → IfSome (result_ok r) (λ n. IsDecodedInto s n old new)
IsDecodedInto-from_Ok s old new (Err e) s_bytes is written bytes = tt
IsDecodedInto-from_Ok s old new (Ok n) s_bytes is written bytes =
    let m : List ℕ = decoded_bytes_of url_safe_no_pad s in
    let parts = slice-Ok _ _ _ _ _ n (sym is) in
    let decoded : decode_of url_safe_no_pad s ≡ Ok m = ap (λ x. decode_outcome x m) parts.0 in
    let text : s ≡ base64url m = decode_of_strict url_safe_no_pad s m (refl, refl) s_bytes decoded ∙ encode_of-base64url m bytes in
    let front : take n new ≡ m = rw written (take_at m (drop (length m) old) n parts.1) in
    record {
      fits = subst (λ k. k ≤ length old) parts.1 parts.2;
      text_of_front = text ∙ ap base64url (sym front);
      rest = rw written (drop_at m (drop (length m) old) n parts.1 ∙ ap (λ k. drop k old) parts.1);
    }

outcome-Ok : (error : Option DecodeError) (bytes b : List ℕ) → decode_outcome error bytes ≡ Ok b → (error ≡ None) × (bytes ≡ b)
outcome-Ok None bytes b is = (refl, cc is)
outcome-Ok (Some e) bytes b is = cc is

-- a text of bytes that have room is decoded
within-Ok : (s b : List ℕ) (room : ℕ) → IsBytes b → length b ≤ room → s ≡ base64url b → decode_slice_of url_safe_no_pad s room ≡ Ok (length b)
within-Ok s b room bytes fits text =
    let long : length s ≡ sixes_of (length b) = ap (λ (t : List ℕ). length t) text ∙ length-base64url b in
    let decoded = ap (decode_of url_safe_no_pad) text ∙ decode_of-base64url b bytes in
    let parts = outcome-Ok _ _ b decoded in
    let count : length (decoded_bytes_of url_safe_no_pad s) ≡ length b = ap (λ (t : List ℕ). length t) parts.1 in
    let large = le-ltb (room / 3) (groups_before_last (length s)) (omega arith) in
    let enough = le-ltb room (length (decoded_bytes_of url_safe_no_pad s)) (omega arith) in
    slice-from_none _ _ _ _ _ parts.0 large enough ∙ ap (λ (n : ℕ). Ok n) count

-- what an Err refused is no text of bytes that have room
pub IsBase64urlWithin-not_None : (s : List ℕ) (room : ℕ) (r : Result ℕ DecodeSliceError) → r ≡ decode_slice_of url_safe_no_pad s room
    → IfNone (result_ok r) (¬ (IsBase64urlWithin room s))
IsBase64urlWithin-not_None s room (Ok n) is = tt
IsBase64urlWithin-not_None s room (Err e) is = λ found.
    let read = within-Ok s found.0 room found.1 found.2 found.3 in
    cc (is, read)
