use Rattle.std.proofs.Common.{◌≡◌, ℕ, ◌+◌, ◌*◌, ◌/◌, ◌%◌, ◌<◌, length, get_or}
use Rattle.crypto_text.specs.Rfc2104.{hmac}
use Rattle.crypto_text.specs.Rfc8018.{block_at}
use Rattle.crypto_text.proofs.pbkdf2.derive.Given as goal

abbrev pub invariant-loop-i : goal.invariant-loop-i
invariant-loop-i g l = (k : ℕ) → k < g.row.N * l.i → k < length l.out
    → get_or l.out k 0 ≡ get_or (block_at (hmac g.H.HashState.hash) g.row.N l.password l.salt l.count (1 + k / g.row.N)) (k % g.row.N) 0
