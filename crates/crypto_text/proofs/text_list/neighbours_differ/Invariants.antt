use Rattle.std.proofs.Common.{◌≢◌, ℕ, ◌+◌, ◌<◌, [], get_or}
use Rattle.crypto_text.proofs.text_list.neighbours_differ.Given as goal

abbrev pub invariant-loop-i : goal.invariant-loop-i
invariant-loop-i l = (k : ℕ) → k + 1 < l.i → get_or l.sorted k [] ≢ get_or l.sorted (k + 1) []
