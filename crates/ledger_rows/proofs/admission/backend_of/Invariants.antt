use Rattle.std.proofs.Common.{◌≡◌, drop}
use Rattle.ledger_rows.specs.Admission.{backend_of}
use Rattle.ledger_rows.proofs.admission.backend_of.Given as goal

-- the backend is among those to come
abbrev pub invariant-loop-backend : goal.invariant-loop-backend
invariant-loop-backend l = backend_of (drop l.backend-index l.backends) l.path ≡ backend_of l.backends l.path
