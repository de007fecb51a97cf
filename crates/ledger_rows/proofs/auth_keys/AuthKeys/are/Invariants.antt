use Rattle.std.proofs.Common.{◌≡◌, ◌<◌, ℕ}
use Rattle.signing_core.specs.Keys.{key_at}
use Rattle.ledger_rows.proofs.auth_keys.AuthKeys.are.Given as goal

-- the keys before this place are the same
abbrev pub invariant-loop-at : goal.invariant-loop-at
invariant-loop-at l = (place : ℕ) → place < l.at → key_at l.self-inside.keys place ≡ key_at l.keys place
