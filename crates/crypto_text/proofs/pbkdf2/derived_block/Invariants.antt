use Rattle.std.proofs.Common.{List, ℕ}
use Rattle.crypto_text.specs.Rfc2104.{hmac, inner_pad, outer_pad}
use Rattle.crypto_text.proofs.DerivedKeyLemmas.{IsAfter}
use Rattle.crypto_text.proofs.pbkdf2.derived_block.Given as goal

abbrev pub invariant-loop-round : goal.invariant-loop-round
invariant-loop-round g l = (password : List ℕ) → g.H.HashState.holds l.inner (inner_pad g.H.HashState.hash password)
    → g.H.HashState.holds l.outer (outer_pad g.H.HashState.hash password)
    → IsAfter (hmac g.H.HashState.hash) g.row.N password l.salt l.number l.round l.mac l.block
