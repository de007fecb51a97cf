use Rattle.std.proofs.Common.{◌≡◌, ◌↔◌, IsTrue, length, take}
use Rattle.crypto_text.proofs.compare.same.Given as goal

abbrev pub invariant-loop-x : goal.invariant-loop-x
invariant-loop-x l = IsTrue l.equal ↔ (take (length l.yielded) l.a ≡ take (length l.yielded) l.b)
