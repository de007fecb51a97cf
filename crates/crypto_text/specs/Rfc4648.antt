-- base64url without padding, as RFC 4648 says it in sections 4 and 5.
use Rattle.std.specs.Prelude.{◌≡◌, ℕ, ◌+◌, ◌-◌, ◌*◌, ◌/◌, ◌%◌, ◌^◌, ◌<◌, ◌≤◌, List, codes, drop, length, map, slice_index, take}
use Rattle.std.specs.List.{range_with_len}

-- the 64 characters in the order of their values (section 5)
unfoldable pub url_safe_letters : List ℕ
url_safe_letters = codes "ABCDEFGHIJKLMNOPQRSTUVWXYZabcdefghijklmnopqrstuvwxyz0123456789-_"

-- each number of the list is below 256
abbrev pub IsBytes : List ℕ → Type 0
IsBytes bytes = (i : ℕ) → slice_index bytes i < 256

-- the j-th bit of the bytes, the highest bit of each byte first; after the last byte all bits are zero
unfoldable pub bit_at : List ℕ → ℕ → ℕ
bit_at bytes j = slice_index bytes (j / 8) / 2 ^ (7 - j % 8) % 2

-- the number that the i-th six of the bits makes
unfoldable pub six_at : List ℕ → ℕ → ℕ
six_at bytes i =
    bit_at bytes (6 * i) * 32 + bit_at bytes (6 * i + 1) * 16 + bit_at bytes (6 * i + 2) * 8
    + bit_at bytes (6 * i + 3) * 4 + bit_at bytes (6 * i + 4) * 2 + bit_at bytes (6 * i + 5)

-- in how many sixes n bytes are cut, the last filled with zero bits
abbrev pub sixes_of : ℕ → ℕ
sixes_of n = (8 * n + 5) / 6

-- the bits cut into sixes, the last filled with zero bits, each written as its character
unfoldable pub base64url : List ℕ → List ℕ
base64url bytes = map (λ i. slice_index url_safe_letters (six_at bytes i)) (range_with_len 0 (sixes_of (length bytes)))

-- the text is what some bytes are written as
abbrev pub IsBase64url : List ℕ → Type 0
IsBase64url text = (bytes : List ℕ) × IsBytes bytes × (text ≡ base64url bytes)

-- the text is what n bytes are written as, and these replaced the front of what was there
pub record IsDecodedInto (text : List ℕ) (n : ℕ) (old new : List ℕ) : Type 0 where
  pub fits : n ≤ length old
  pub text_of_front : text ≡ base64url (take n new)
  pub rest : drop n new ≡ drop n old

-- the text is what some bytes are written as, at most `room` of them
abbrev pub IsBase64urlWithin : ℕ → List ℕ → Type 0
IsBase64urlWithin room text = (bytes : List ℕ) × IsBytes bytes × (length bytes ≤ room) × (text ≡ base64url bytes)
