-- What one call of a reader answers, of all that is left: what it keeps, and then what its source has left.
use Rattle.std.specs.Prelude.{◌≡◌, List, ℕ, [], Option, Some, None, Result, Ok, Err, ⊤}
use Rattle.http_edge.specs.RequestFraming.{ended, refused, request, IsFraming}
use Rattle.http_edge.specs.declared.request.EdgeFault.{EdgeFault}
use Rattle.http_edge.specs.declared.request.EdgeFault.TheVariants.{ReadFault, Memory}
use Rattle.http_edge.specs.declared.request.Request.{Request}

-- a refusal of the bytes that were left; a fault of the source or of memory says nothing of them
abbrev pub RefusalIs : List ℕ → EdgeFault → Type 0
RefusalIs left ReadFault = ⊤
RefusalIs left Memory = ⊤
RefusalIs left fault = IsFraming left (refused fault)

-- the answer is what the bytes that were left begin with, and the bytes after a request are left now
abbrev pub IsFramingOf : List ℕ → Result (Option Request) EdgeFault → Option (List ℕ) → Type 0
IsFramingOf left (Ok None) now = IsFraming left ended × (now ≡ Some [])
IsFramingOf left (Ok (Some r)) now = (rest : List ℕ) × IsFraming left (request r rest) × (now ≡ Some rest)
IsFramingOf left (Err fault) now = RefusalIs left fault
