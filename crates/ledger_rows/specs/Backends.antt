-- What decides who may come in: Django's authentication backends.
use Rattle.std.specs.Prelude.{ℕ, List, codes}
use Rattle.ledger_rows.specs.declared.rows.Backend.{Backend}
use Rattle.ledger_rows.specs.declared.rows.Backend.TheVariants.{Model, AllowAll}

-- a backend's name in sessions and settings
unfoldable pub path_of : Backend → List ℕ
path_of Model = codes "django.contrib.auth.backends.ModelBackend"
path_of AllowAll = codes "django.contrib.auth.backends.AllowAllUsersModelBackend"
