-- A key as a block.
use Rattle.std.proofs.Common.{◌≡◌, ℕ, ◌-◌, ◌<◌, ◌≤◌, List, ◌++◌, length, drop, replicate, refl, rules}
use Rattle.std.proofs.lemmas.List.{drop-replicate}
use Rattle.crypto_text.specs.Rfc2104.{Hash, block_key}

-- what is written over the front of 64 zeros leaves the rest of them
pub filled-written : (written bytes : List ℕ) → written ≡ bytes
    → written ++ drop (length bytes) (replicate 64 0) ≡ bytes ++ replicate (64 - length bytes) 0
filled-written written bytes same = rw (same, drop-replicate) refl

-- a long key is hashed
pub block_key-long : (hash : Hash) (key : List ℕ) → 64 < length key
    → block_key hash key ≡ hash key ++ replicate (64 - length (hash key)) 0
unfolding block_key
block_key-long hash key long = search (rules, long)

-- another is taken as it is
pub block_key-short : (hash : Hash) (key : List ℕ) → length key ≤ 64
    → block_key hash key ≡ key ++ replicate (64 - length key) 0
unfolding block_key
block_key-short hash key short = search (rules, short)
