use Rattle.std.proofs.Common.{◌<◌, ℕ}
use Rattle.std.specs.Prelude.{◌≢◌}
use Rattle.signing_core.specs.Keys.{key_at}
use Rattle.ledger_rows.specs.Admission.{auth_hash}
use Rattle.ledger_rows.proofs.auth_keys.AuthKeysAuthKeyList.key_index.Given as goal

-- no key before this place gives the hash
abbrev pub invariant-loop-at : goal.invariant-loop-at
invariant-loop-at l = (place : ℕ) → place < l.at → auth_hash l.password (key_at l.self-inside.ready.items place) ≢ l.hash
