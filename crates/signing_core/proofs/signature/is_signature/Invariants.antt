use Rattle.std.proofs.Common.{◌≡◌, ℕ, ◌<◌, [], get_or}
use Rattle.signing_core.specs.Signature.{signature_of}
use Rattle.signing_core.proofs.signature.is_signature.Given as goal

-- no key so far fits
abbrev pub invariant-loop-at : goal.invariant-loop-at
invariant-loop-at l = (k : ℕ) → k < l.at → l.signature ≡ signature_of l.value l.prefix l.salt (get_or l.keys k []) → ⊥
