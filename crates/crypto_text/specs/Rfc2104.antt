-- HMAC after RFC 2104, section 2, under a hash function with blocks of 64 bytes: a function from a
-- message to its digest.
use Rattle.std.specs.Prelude.{ℕ, ◌-◌, List, ◌++◌, length, map, replicate, bit_xor, nat_lt, if◌then◌else◌}

-- a hash function on byte lists
abbrev pub Hash : Type 0
Hash = List ℕ → List ℕ

-- the key as it is taken: itself, or its digest where it is longer than a block
abbrev pub short_key : Hash → List ℕ → List ℕ
short_key hash key = if nat_lt 64 (length key) then hash key else key

-- the key, filled with zero bytes to a block
unfoldable pub block_key : Hash → List ℕ → List ℕ
block_key hash key = short_key hash key ++ replicate (64 - length (short_key hash key)) 0

-- the key's block xor ipad, the byte 0x36 repeated
unfoldable pub inner_pad : Hash → List ℕ → List ℕ
inner_pad hash key = map (λ byte. bit_xor byte 0x36) (block_key hash key)

-- the key's block xor opad, the byte 0x5c repeated
unfoldable pub outer_pad : Hash → List ℕ → List ℕ
outer_pad hash key = map (λ byte. bit_xor byte 0x5c) (block_key hash key)

-- the MAC of a message under a key: H(K xor opad, H(K xor ipad, text))
unfoldable pub hmac : Hash → List ℕ → List ℕ → List ℕ
hmac hash key message = hash (outer_pad hash key ++ hash (inner_pad hash key ++ message))
