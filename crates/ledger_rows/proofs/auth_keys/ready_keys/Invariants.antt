use Rattle.std.proofs.Common.{◌≡◌}
use Rattle.std.specs.Prelude.{take}
use Rattle.ledger_rows.proofs.auth_keys.ready_keys.Given as goal

-- the keys before this place are ready
abbrev pub invariant-loop-at : goal.invariant-loop-at
invariant-loop-at l = l.ready.items ≡ take l.at l.keys
