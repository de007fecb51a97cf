-- What the calls that read do to the bytes that are kept and to the source, and what their faults say.
use Rattle.std.specs.Prelude.{◌≡◌, ℕ, ◌<◌, List, [], ◌++◌, length, Option, Some, None, Result, Ok, Err, ⊤}
use Rattle.outside.specs.Devices.{Input, HasRead, HasEnded}
use Rattle.httparse.specs.Grammar.{HasNoRequest}
use Rattle.httparse.specs.declared.spans.HeaderSpan.{HeaderSpan}
use Rattle.httparse.specs.declared.spans.RequestSpans.{RequestSpans}
use Rattle.httparse.specs.Spans.{IsRequestWithin, IsRequestOf}
use Rattle.http_edge.specs.Head.{front, MayBeginHead}
use Rattle.http_edge.specs.RequestFraming.{Framing, refused, request, IsFraming, IsOpen}
use Rattle.http_edge.specs.declared.request.Request.{Request}
use Rattle.http_edge.specs.declared.request.EdgeFault.{EdgeFault}
use Rattle.http_edge.specs.declared.request.EdgeFault.TheVariants.{ReadFault, Memory, CutShort}

-- bytes were read of the source and appended to those that were kept
pub record ReadsOn (old : List ℕ) (before : Input) (new : List ℕ) (now : Input) : Type 0 where
  pub taken : List ℕ
  pub kept : new ≡ old ++ taken
  pub source : HasRead before now taken

-- the bytes have no request yet, and more bytes can give one
abbrev pub WaitsForMore : List ℕ → Type 0
WaitsForMore bytes = (framing : Framing) × IsFraming bytes framing × IsOpen framing

-- the fault is that of the bytes, whatever comes, and a cut one only where nothing is left
abbrev pub IsFaultOf : List ℕ → Input → EdgeFault → Type 0
IsFaultOf bytes now Memory = ⊤
IsFaultOf bytes now ReadFault = WaitsForMore bytes
IsFaultOf bytes now CutShort = IsFraming bytes (refused CutShort) × HasEnded now
IsFaultOf bytes now fault = IsFraming bytes (refused fault)

-- a head, the end, or a fault
abbrev pub FindsHead : List ℕ → List HeaderSpan → Input → Result (Option RequestSpans) EdgeFault → Type 0
FindsHead bytes spans now (Ok (Some found)) = IsRequestWithin (front bytes) spans found × IsRequestOf (front bytes) spans found
FindsHead bytes spans now (Ok None) = (bytes ≡ []) × HasEnded now
FindsHead bytes spans now (Err fault) = IsFaultOf bytes now fault

-- a fault of a head by itself
abbrev pub IsHeadFault : EdgeFault → Type 0
IsHeadFault CutShort = ⊥
IsHeadFault ReadFault = ⊥
IsHeadFault Memory = ⊥
IsHeadFault fault = ⊤

-- no head is there yet, and there is room for one
pub record IsBegun (bytes : List ℕ) : Type 0 where
  pub none : HasNoRequest (front bytes)
  pub may : MayBeginHead (front bytes)
  pub short : length bytes < 16384

-- a head, none yet, or the fault of the bytes
abbrev pub IsLook : List ℕ → List HeaderSpan → Result (Option RequestSpans) EdgeFault → Type 0
IsLook bytes spans (Ok (Some found)) = IsRequestWithin (front bytes) spans found × IsRequestOf (front bytes) spans found
IsLook bytes spans (Ok None) = IsBegun bytes
IsLook bytes spans (Err fault) = IsHeadFault fault × IsFraming bytes (refused fault)

-- what was seen is answered, and the bytes after a request are kept
abbrev pub Answers : List ℕ → Input → Result (Option Request) EdgeFault → List ℕ → Type 0
Answers seen now (Ok None) kept = (seen ≡ []) × HasEnded now × (kept ≡ [])
Answers seen now (Ok (Some r)) kept = IsFraming seen (request r kept)
Answers seen now (Err fault) kept = IsFaultOf seen now fault

-- bytes were read of the source, and they are answered with those that were kept
pub record AnswersTaken (old : List ℕ) (before : Input) (result : Result (Option Request) EdgeFault) (new : List ℕ) (now : Input) : Type 0 where
  pub taken : List ℕ
  pub source : HasRead before now taken
  pub answer : Answers (old ++ taken) now result new
