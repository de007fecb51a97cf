use Rattle.std.proofs.Common.{◌≡◌, drop}
use Rattle.auth_backends.specs.Authentication.{admitting_backend}
use Rattle.auth_backends.proofs.authentication.admitting_backend.Given as goal

-- the backend is among those to come
abbrev pub invariant-loop-backend : goal.invariant-loop-backend
invariant-loop-backend l = admitting_backend (drop l.backend-index l.backends) l.user ≡ admitting_backend l.backends l.user
