use Rattle.std.proofs.Common.{◌≡◌}
use Rattle.std.specs.List.{All}
use Rattle.turn_lock.proofs.tests.passes.Given as goal

abbrev pub invariant-loop : goal.invariant-loop
invariant-loop l = (l.first.table ≡ l.shared.table) × All (λ p. p.table ≡ l.shared.table) l.all.items
