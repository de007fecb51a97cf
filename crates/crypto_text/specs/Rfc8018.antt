-- PBKDF2 after RFC 8018, section 5.2, under a pseudorandom function: a function from a key and a
-- message to a text of `size` bytes, which the RFC calls hLen.
use Rattle.std.specs.Prelude.{ℕ, zero, suc, ◌+◌, ◌/◌, ◌%◌, List, ◌++◌, map, bit_xor, slice_index}
use Rattle.std.specs.Int.{w32, to_be_bytes}
use Rattle.std.specs.List.{range_with_len}

-- a pseudorandom function of a key and a message
abbrev pub Prf : Type 0
Prf = List ℕ → List ℕ → List ℕ

-- U of a block and a round: each round's is the MAC of the one before, and the first round's the MAC
-- of the salt and the block's number as four bytes, high byte first
unfoldable pub chained_mac : Prf → List ℕ → List ℕ → ℕ → ℕ → List ℕ
chained_mac prf password salt block zero = salt ++ to_be_bytes w32 block
chained_mac prf password salt block (suc round) = prf password (chained_mac prf password salt block round)

-- the byte at a place of U of the rounds 1 to `count`, put together by xor
unfoldable pub byte_at : Prf → List ℕ → List ℕ → ℕ → ℕ → ℕ → ℕ
byte_at prf password salt block place zero = 0
byte_at prf password salt block place (suc count) =
    bit_xor (byte_at prf password salt block place count) (slice_index (chained_mac prf password salt block (suc count)) place)

-- T of a block: the xor of U of the rounds 1 to `count`
unfoldable pub block_at : Prf → ℕ → List ℕ → List ℕ → ℕ → ℕ → List ℕ
block_at prf size password salt count block = map (λ place. byte_at prf password salt block place count) (range_with_len 0 size)

-- the first `length` bytes of T of block 1, then T of block 2, and so on
unfoldable pub derived_key : Prf → ℕ → List ℕ → List ℕ → ℕ → ℕ → List ℕ
derived_key prf size password salt count length =
    map (λ place. slice_index (block_at prf size password salt count (1 + place / size)) (place % size)) (range_with_len 0 length)
