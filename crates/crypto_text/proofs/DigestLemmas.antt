-- How long digests, MACs and derived keys are, and that they are bytes.
use Rattle.std.proofs.Common.{◌≡◌, ℕ, zero, suc, ◌+◌, ◌*◌, ◌/◌, ◌%◌, ◌^◌, ◌<◌, List, map, ◌++◌, length, get_or, ◌-◌, inl, inr, ap, arith, refl, ◌∙◌, length-append}
use Rattle.std.proofs.lemmas.Bool.{cases_lt}
use Rattle.std.proofs.lemmas.List.{get_or_append_left, get_or-append_right, get_or_past}
use Rattle.std.proofs.lemmas.List.FromFn.{get_or-map-range_with_len, length-map-range_with_len}
use Rattle.std.proofs.lemmas.Nat.{mod_below, xor_of_8}
use Rattle.std.specs.Int.{w32, to_be_bytes, to_le_bytes}
use Rattle.std.specs.List.{range_with_len, slice_index}
pub use Rattle.md5.proofs.StandardFacts.{length-md5}
use Rattle.md5.specs.Md5 as Md5
use Rattle.md5.specs.Md5.{md5}
use Rattle.sha1.specs.Sha1.{digest_bytes, sha1}
use Rattle.sha2.proofs.Facts256.{length-sha256}
use Rattle.sha2.specs.Sha256.{sha256}
use Rattle.sha2.specs.Sha256 as S256
use Rattle.hex.proofs.HexLemmas.{length-encode_with}
use Rattle.hex.specs.Hex.{lower_digits}
use Rattle.crypto_text.specs.Md5Hex.{md5_hex}
use Rattle.crypto_text.specs.Rfc2104.{hmac}
use Rattle.crypto_text.specs.Rfc8018.{Prf, block_at, byte_at, chained_mac, derived_key}
use Rattle.crypto_text.specs.SaltedHmac.{salted_hmac}

pub length-hmac_sha256 : (key message : List ℕ) → length (hmac sha256 key message) ≡ 32
unfolding hmac
length-hmac_sha256 key message = length-sha256 _

pub length-salted_hmac : (key_salt value secret : List ℕ) → length (salted_hmac key_salt value secret) ≡ 32
unfolding salted_hmac
length-salted_hmac key_salt value secret = length-hmac_sha256 _ _

length-digest_bytes : (words : List ℕ) (n : ℕ) → length (digest_bytes words n) ≡ n * 4
unfolding digest_bytes
length-digest_bytes words zero = refl
length-digest_bytes words (suc n) =
    let before = length-digest_bytes words n in
    let last : length (to_be_bytes w32 (slice_index words n)) ≡ 4 = refl in
    let both = length-append (digest_bytes words n) (to_be_bytes w32 (slice_index words n)) in
    omega (arith, before, last, both)

pub length-sha1 : (message : List ℕ) → length (sha1 message) ≡ 20
unfolding sha1
length-sha1 message = length-digest_bytes _ 5

pub length-hmac_sha1 : (key message : List ℕ) → length (hmac sha1 key message) ≡ 20
unfolding hmac
length-hmac_sha1 key message = length-sha1 _

-- a derived key has the length that is asked for, also where that is 0
pub length-derived_key : (prf : Prf) (size : ℕ) (password salt : List ℕ) (count n : ℕ) → length (derived_key prf size password salt count n) ≡ n
unfolding derived_key
length-derived_key prf size password salt count n = length-map-range_with_len _ 0 n

-- each element is a byte, also the 0 that stands for what is past the end
abbrev AreBytes : List ℕ → Type 0
AreBytes bytes = (i : ℕ) → get_or bytes i 0 < 256

AreBytes-append : (front back : List ℕ) → AreBytes front → AreBytes back → AreBytes (front ++ back)
AreBytes-append front back first second i = elim (cases_lt i (length front)) [
  | inl lt ↦ rw (get_or_append_left front back 0 i lt) (first i)
  | inr ge ↦ rw (get_or-append_right front back (length front) i 0 refl ge) (second (i - length front))
]

AreBytes-to_be_bytes : (word : ℕ) → AreBytes (to_be_bytes w32 word)
AreBytes-to_be_bytes word zero = mod_below _ 256 (omega arith)
AreBytes-to_be_bytes word (suc zero) = mod_below _ 256 (omega arith)
AreBytes-to_be_bytes word (suc (suc zero)) = mod_below _ 256 (omega arith)
AreBytes-to_be_bytes word (suc (suc (suc zero))) = mod_below _ 256 (omega arith)
AreBytes-to_be_bytes word (suc (suc (suc (suc i)))) = omega arith

AreBytes-digest_bytes : (words : List ℕ) (n : ℕ) → AreBytes (S256.digest_bytes words n)
unfolding S256.digest_bytes
AreBytes-digest_bytes words zero = λ i. omega arith
AreBytes-digest_bytes words (suc n) = AreBytes-append _ _ (AreBytes-digest_bytes words n) (AreBytes-to_be_bytes _)

pub bytes-hmac_sha256 : (key message : List ℕ) (i : ℕ) → get_or (hmac sha256 key message) i 0 < 256
unfolding hmac sha256
bytes-hmac_sha256 key message = AreBytes-digest_bytes _ 8

pub bytes-salted_hmac : (key_salt value secret : List ℕ) (i : ℕ) → get_or (salted_hmac key_salt value secret) i 0 < 256
unfolding salted_hmac
bytes-salted_hmac key_salt value secret = bytes-hmac_sha256 _ _

AreBytes-sha1_bytes : (words : List ℕ) (n : ℕ) → AreBytes (digest_bytes words n)
unfolding digest_bytes
AreBytes-sha1_bytes words zero = λ i. omega arith
AreBytes-sha1_bytes words (suc n) = AreBytes-append _ _ (AreBytes-sha1_bytes words n) (AreBytes-to_be_bytes _)

pub bytes-hmac_sha1 : (key message : List ℕ) (i : ℕ) → get_or (hmac sha1 key message) i 0 < 256
unfolding hmac sha1
bytes-hmac_sha1 key message = AreBytes-sha1_bytes _ 5

AreBytes-to_le_bytes : (word : ℕ) → AreBytes (to_le_bytes w32 word)
AreBytes-to_le_bytes word zero = mod_below _ 256 (omega arith)
AreBytes-to_le_bytes word (suc zero) = mod_below _ 256 (omega arith)
AreBytes-to_le_bytes word (suc (suc zero)) = mod_below _ 256 (omega arith)
AreBytes-to_le_bytes word (suc (suc (suc zero))) = mod_below _ 256 (omega arith)
AreBytes-to_le_bytes word (suc (suc (suc (suc i)))) = omega arith

AreBytes-md5_bytes : (words : List ℕ) (n : ℕ) → AreBytes (Md5.digest_bytes words n)
unfolding Md5.digest_bytes
AreBytes-md5_bytes words zero = λ i. omega arith
AreBytes-md5_bytes words (suc n) = AreBytes-append _ _ (AreBytes-md5_bytes words n) (AreBytes-to_le_bytes _)

pub bytes-md5 : (message : List ℕ) (i : ℕ) → get_or (md5 message) i 0 < 256
unfolding md5
bytes-md5 message = AreBytes-md5_bytes _ 4

-- where the pseudorandom function gives bytes, so do its rounds put together by xor
below-byte_at : (prf : Prf) → ((key message : List ℕ) (i : ℕ) → get_or (prf key message) i 0 < 256)
    → (password salt : List ℕ) (block place count : ℕ) → byte_at prf password salt block place count < 2 ^ 8
unfolding byte_at chained_mac
below-byte_at prf bytes password salt block place zero = omega arith
below-byte_at prf bytes password salt block place (suc count) =
    xor_of_8 _ _ (below-byte_at prf bytes password salt block place count) (bytes password (chained_mac prf password salt block count) place)

bytes-from_fn : (f : ℕ → ℕ) (n : ℕ) → ((k : ℕ) → f k < 256) → AreBytes (map f (range_with_len 0 n))
bytes-from_fn f n below i = elim (cases_lt i n) [
  | inl lt ↦ rw (get_or-map-range_with_len f 0 n i i 0 lt (omega arith)) (below i)
  | inr ge ↦ rw (get_or_past (map f (range_with_len 0 n)) i 0 (omega (arith, ge, length-map-range_with_len f 0 n))) (omega arith)
]

pub bytes-derived_key : (prf : Prf) → ((key message : List ℕ) (i : ℕ) → get_or (prf key message) i 0 < 256)
    → (size : ℕ) (password salt : List ℕ) (count n i : ℕ) → get_or (derived_key prf size password salt count n) i 0 < 256
unfolding derived_key block_at
bytes-derived_key prf bytes size password salt count n =
    bytes-from_fn _ n (λ k. bytes-from_fn _ size (λ place. below-byte_at prf bytes password salt (1 + k / size) place count) (k % size))

pub length-md5_hex : (message : List ℕ) → length (md5_hex message) ≡ 32
unfolding md5_hex
length-md5_hex message = length-encode_with lower_digits (md5 message) ∙ ap (λ (n : ℕ). 2 * n) (length-md5 message)
