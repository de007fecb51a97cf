-- What is decoded with room enough is what was written, and nothing else decodes.
use Rattle.std.proofs.Common.{◌≡◌, ℕ, ◌<◌, ◌≤◌, Bool, true, false, List, [], Result, Ok, Err, length, get_or, eqb, ltb, replicate, take, arith, refl, sym, ap, ◌∙◌, length-append}
use Rattle.std.proofs.lemmas.Bool.Decides.{Decides-eqb, Decides-ltb}
use Rattle.std.proofs.lemmas.Bool.{agree_below_at}
use Rattle.std.proofs.lemmas.Str.Ascii.{IsAscii-from_reads}
use Rattle.std.proofs.lemmas.List.{length-replicate, take_at}
use Rattle.std.specs.Bool.{Decides}
use Rattle.base64.proofs.Decoding.{or_error_ok, slice_result_room}
use Rattle.base64.proofs.EngineFacts.{decode_of_strict}
use Rattle.base64.proofs.RoundTrip.{decode-encode, length-encode_symbols}
use Rattle.base64.specs.Decode.{decode_outcome, decoded_estimate}
use Rattle.base64.specs.Rfc4648.{encode, encode_symbols, encoded_size, padding_len}
use Rattle.base64.specs.GeneralPurpose.{IsBytes, IsConsistent, IsEncodedOver, IsStrict, decode_of, decode_slice_of, decoded_bytes_of, encode_of, encoded_size_of}
use Rattle.crypto_text.specs.Md5Hex.{md5_hex}
use Rattle.hex.proofs.HexLemmas.{IsAscii-encode_with, decode_of-ok, decode_sized-ok, decode_sized-twice}
use Rattle.hex.specs.Hex as hex
use Rattle.hex.specs.Hex.{decode_sized, lower_digits}
use Rattle.hex.specs.declared.error.FromHexError.{FromHexError}
use Rattle.std.specs.Result.{MatchResult}
use Rattle.std.specs.Str.{IsAscii}
use Rattle.base64.specs.declared.decode.DecodeSliceError.{DecodeSliceError}
use Rattle.base64.specs.declared.engine.general_purpose.GeneralPurpose.{GeneralPurpose}

pub decoded_is_written : (e : GeneralPurpose) (text : List ℕ) (room n : ℕ) → IsStrict e → IsBytes text → decoded_estimate (length text) ≤ room
    → decode_slice_of e text room ≡ Ok n → (length (decoded_bytes_of e text) ≡ n) × (text ≡ encode_of e (decoded_bytes_of e text))
decoded_is_written e text room n strict bytes enough ok =
    let whole = slice_result_room e.decode_table text e.padding.value e.config.decode_allow_trailing_bits e.config.decode_padding_mode room enough in
    let read = or_error_ok _ _ n (sym whole ∙ ok) in
    let decoded : decode_of e text ≡ Ok (decoded_bytes_of e text) = ap (λ error. decode_outcome error (decoded_bytes_of e text)) read.0 in
    (read.1, decode_of_strict e text (decoded_bytes_of e text) strict bytes decoded)

pub written_is_decoded : (e : GeneralPurpose) (text digest : List ℕ) (room : ℕ) → IsConsistent e → IsBytes digest → decoded_estimate (length text) ≤ room
    → text ≡ encode_of e digest → decode_slice_of e text room ≡ Ok (length digest)
written_is_decoded e text digest room consistent bytes enough written =
    let whole = slice_result_room e.decode_table text e.padding.value e.config.decode_allow_trailing_bits e.config.decode_padding_mode room enough in
    let back = decode-encode e.encode_table e.decode_table digest e.padding.value e.config.decode_allow_trailing_bits e.config.decode_padding_mode
    e.config.encode_padding e.tables bytes consistent in
    let there = rw (← written) at back in
    whole ∙ rw (there.0, there.1) refl

length-encode : (t : List ℕ) (pad : ℕ) (padding : Bool) (m : List ℕ) → length (encode t pad padding m) ≡ encoded_size (length m) padding
length-encode t pad true m = length-append (encode_symbols t m) (replicate (padding_len (length m)) pad)
    ∙ rw (length-encode_symbols t m, length-replicate (padding_len (length m)) pad) refl
length-encode t pad false m = length-append (encode_symbols t m) [] ∙ rw (length-encode_symbols t m) (omega arith)

pub length-encode_of : (e : GeneralPurpose) (m : List ℕ) → length (encode_of e m) ≡ encoded_size_of e (length m)
length-encode_of e m = length-encode e.encode_table e.padding.value e.config.encode_padding m

encoded_size-short : (n : ℕ) (padding : Bool) → n ≤ 32 → encoded_size n padding ≤ 44
encoded_size-short n true short = omega arith
encoded_size-short n false short = omega arith

pub encoded_size_of-short : (e : GeneralPurpose) (n : ℕ) → n ≤ 32 → encoded_size_of e n ≤ 44
encoded_size_of-short e n short = encoded_size-short n e.config.encode_padding short

-- the encoding of a digest has 44 symbols at most
pub length-encode_of-short : (e : GeneralPurpose) (m : List ℕ) → length m ≤ 32 → length (encode_of e m) ≤ 44
length-encode_of-short e m short = rw (length-encode_of e m) (encoded_size-short (length m) e.config.encode_padding short)

-- the front of what an encoding was written over is the encoding
pub take-encoded : (e : GeneralPurpose) (m old new : List ℕ) (n : ℕ) → IsEncodedOver e m old new → n ≡ encoded_size_of e (length m) → take n new ≡ encode_of e m
take-encoded e m old new n written size = rw (written, size, ← length-encode_of e m) (take_at (encode_of e m) _ _ refl)

-- a text that is compared with the front of what an encoding was written over is compared with the encoding
pub compared_with_encoding : (e : GeneralPurpose) (digest text old new : List ℕ) (n : ℕ) (r : Bool) → IsEncodedOver e digest old new
    → n ≡ encoded_size_of e (length digest) → Decides r (text ≡ take n new) → Decides r (text ≡ encode_of e digest)
compared_with_encoding e digest text old new n r written size compared =
    let front = take-encoded e digest old new n written size in rw front at compared

-- some digest of so many bytes that the text is written of
abbrev pub IsWritten : GeneralPurpose → List ℕ → ℕ → Type 0
IsWritten e text size = (digest : List ℕ) × (length digest ≡ size) × IsBytes digest × (text ≡ encode_of e digest)

decoded_estimate-short : (n : ℕ) → n ≤ 44 → decoded_estimate n ≤ 33
decoded_estimate-short n short = omega arith

-- a text that decodes is written of as many bytes as were decoded
pub decoded_decides : (e : GeneralPurpose) (text : List ℕ) (n size : ℕ) → IsStrict e → IsConsistent e → IsBytes text → length text ≤ 44
    → decode_slice_of e text 33 ≡ Ok n → IsBytes (decoded_bytes_of e text) → Decides (eqb n size) (IsWritten e text size)
decoded_decides e text n size strict consistent bytes short ok decoded =
    let room = decoded_estimate-short (length text) short in
    let read = decoded_is_written e text 33 n strict bytes room ok in (
      λ yes. (decoded_bytes_of e text, read.0 ∙ (Decides-eqb n size).0 yes, decoded, read.1),
      λ found.
          let again = written_is_decoded e text found.0 33 consistent found.2 room found.3 in
          let same : n ≡ length found.0 = cc (sym ok ∙ again) in
          (Decides-eqb n size).1 (same ∙ found.1),
    )

pub undecoded : (e : GeneralPurpose) (text : List ℕ) (size : ℕ) (f : DecodeSliceError) → IsConsistent e → length text ≤ 44
    → decode_slice_of e text 33 ≡ Err f → IsWritten e text size → ⊥
undecoded e text size f consistent short failed found =
    let again = written_is_decoded e text found.0 33 consistent found.2 (decoded_estimate-short (length text) short) found.3 in
    cc (sym failed ∙ again)

pub too_long : (e : GeneralPurpose) (text : List ℕ) (size : ℕ) → 44 < length text → size ≤ 32 → IsWritten e text size → ⊥
too_long e text size long short found =
    let few : length found.0 ≤ 32 = omega (arith, short, found.1) in
    let fits = length-encode_of-short e found.0 few in
    let same : length text ≡ length (encode_of e found.0) = ap length found.3 in
    omega (arith, long, fits, same)

-- what was decoded from hex digits is bytes
pub read_bytes : (text out : List ℕ) (n : ℕ) (r : Result (Unit {0}) FromHexError) (d : Result (List ℕ) FromHexError) → decode_sized text n ≡ d
    → MatchResult d (λ bytes. (r ≡ Ok tt) × (out ≡ bytes)) (λ e. r ≡ Err e) → r ≡ Ok tt → hex.IsBytes out
read_bytes text out n r (Ok bytes) is value ok =
    let long = decode_sized-ok text n bytes is in
    let read = decode_of-ok text bytes (sym (decode_sized-twice text n long) ∙ is) in
    rw value.1 read.3
read_bytes text out n r (Err e) is value ok = cc (sym ok ∙ value)

IsAscii-lower_digits : IsAscii lower_digits
IsAscii-lower_digits = IsAscii-from_reads lower_digits 16 (omega arith)
    (λ k lt. (Decides-ltb (get_or lower_digits k 0) 128).0 (agree_below_at (λ n. ltb (get_or lower_digits n 0) 128) (λ n. true) 16 k refl lt))

-- hex digits are ASCII
pub IsAscii-md5_hex : (message : List ℕ) → IsAscii (md5_hex message)
unfolding md5_hex
IsAscii-md5_hex message = IsAscii-encode_with lower_digits _ IsAscii-lower_digits
