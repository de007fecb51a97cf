-- What a stream of bytes begins with: nothing, a refusal, or a request and the bytes after it (RFC 9112, sections 2, 3 and 6).
use Rattle.std.specs.Prelude.{◌≡◌, ◌⊎◌, ℕ, ◌<◌, nat_lt, nat_le, if◌then◌else◌, List, [], length, take, drop, Option, Some, None}
use Rattle.httparse.specs.Grammar.{RequestHead, print_request, HasNoRequest}
use Rattle.http_edge.specs.Head.{front, HasHead, MayBeginHead}
use Rattle.http_edge.specs.HeaderFields.{fields_of, request_of}
use Rattle.http_edge.specs.HeadFault.{body_length, stated_length, fault_of}
use Rattle.http_edge.specs.declared.request.EdgeFault.{EdgeFault}
use Rattle.http_edge.specs.declared.request.EdgeFault.TheVariants.{BadHead, HeadTooLong, CutShort}
use Rattle.http_edge.specs.declared.request.Request.{Request}

-- what the bytes begin with
pub data Framing : Type 0 where
  ended : Framing
  refused : EdgeFault → Framing
  request : Request → List ℕ → Framing

-- the length that the head gives its body
unfoldable pub length_of : RequestHead → ℕ
length_of h = body_length (stated_length (fields_of h))

-- after a head without fault: its body, where it is whole
abbrev pub with_body : RequestHead → List ℕ → Framing
with_body h after =
    if nat_lt (length after) (length_of h) then refused CutShort
    else request (request_of h (take (length_of h) after)) (drop (length_of h) after)

-- the fault, where there is one
abbrev pub unless_fault : Option EdgeFault → Framing → Framing
unless_fault (Some fault) framing = refused fault
unless_fault None framing = framing

-- after a head
unfoldable pub after_head : RequestHead → List ℕ → Framing
after_head h after = unless_fault (fault_of h.method (fields_of h)) (with_body h after)

-- without a head among the first bytes
pub record IsHeadless (first : List ℕ) (framing : Framing) : Type 0 where
  pub none : HasNoRequest first
  pub fault :
      ((MayBeginHead first → ⊥) × (framing ≡ refused BadHead))
      ⊎ (MayBeginHead first × (framing ≡ refused (if nat_le 16384 (length first) then HeadTooLong else CutShort)))

-- with this head
pub record IsBehind (bytes : List ℕ) (framing : Framing) (h : RequestHead) : Type 0 where
  pub head : HasHead (front bytes) h
  pub after : framing ≡ after_head h (drop (length (print_request h)) bytes)

-- what the bytes begin with
abbrev pub IsFraming : List ℕ → Framing → Type 0
IsFraming bytes framing =
    ((bytes ≡ []) × (framing ≡ ended))
    ⊎ (((0 < length bytes) × IsHeadless (front bytes) framing)
    ⊎ ((h : RequestHead) × IsBehind bytes framing h))

-- more bytes can change what the bytes begin with
abbrev pub IsOpen : Framing → Type 0
IsOpen framing = (framing ≡ ended) ⊎ (framing ≡ refused CutShort)
