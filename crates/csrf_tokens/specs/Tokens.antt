-- What a token carries, after Django 4.2's `_mask_cipher_secret` and `_unmask_cipher_token`.
use Rattle.std.specs.Prelude.{◌≡◌, ℕ, ◌+◌, ◌%◌, ◌<◌, List, ◌++◌, length, map, slice_index}
use Rattle.std.specs.List.{range_with_len}
use Rattle.csrf_tokens.specs.Letters.{AreLetters, difference_of, index_of, sum_of}

-- the token carries the secret: after the 32 letters of the mask come 32 more, each the sum of a letter of the secret
-- and one of the mask, modulo 62
pub record Masks (secret token : List ℕ) : Type 0 where
  pub whole : length token ≡ 64
  pub letters : AreLetters token
  pub sums : (i : ℕ) → i < 32
      → index_of (slice_index token (32 + i)) ≡ (index_of (slice_index secret i) + index_of (slice_index token i)) % 62

-- the token that carries a secret under a mask: the 32 letters of the mask, and then their sums with those of the secret
unfoldable pub masked : List ℕ → List ℕ → List ℕ
masked secret mask = mask ++ map (λ i. sum_of (slice_index secret i) (slice_index mask i)) (range_with_len 0 32)

-- the secret of a token: the letters of its second half less those of its mask
unfoldable pub unmasked : List ℕ → List ℕ
unmasked token = map (λ i. difference_of (slice_index token (32 + i)) (slice_index token i)) (range_with_len 0 32)
