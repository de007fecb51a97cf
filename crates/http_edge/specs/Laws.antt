-- Why it doesn't matter in which pieces the bytes of a stream come.
use Rattle.std.specs.Prelude.{◌≡◌, ◌≢◌, ◌++◌, ℕ, List}
use Rattle.http_edge.specs.RequestFraming.{Framing, IsFraming, refused, request}
use Rattle.http_edge.specs.declared.request.Request.{Request}
use Rattle.http_edge.specs.declared.request.EdgeFault.{EdgeFault}
use Rattle.http_edge.specs.declared.request.EdgeFault.TheVariants.{CutShort}

-- bytes begin with one thing
abbrev pub FramingIsOne : Type 0
FramingIsOne = (bytes : List ℕ) (x y : Framing) → IsFraming bytes x → IsFraming bytes y → x ≡ y

-- a request stands whatever bytes follow, and they are after it
abbrev pub RequestStands : Type 0
RequestStands = (bytes more rest : List ℕ) (r : Request) → IsFraming bytes (request r rest) → IsFraming (bytes ++ more) (request r (rest ++ more))

-- so does every refusal but that of bytes that are cut short
abbrev pub RefusalStands : Type 0
RefusalStands = (bytes more : List ℕ) (fault : EdgeFault) → fault ≢ CutShort → IsFraming bytes (refused fault) → IsFraming (bytes ++ more) (refused fault)
