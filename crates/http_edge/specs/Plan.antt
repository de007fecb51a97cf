-- What is known of a request once its head is read.
use Rattle.std.specs.Prelude.{◌≡◌, ◌⊎◌, ℕ, ◌+◌, List, [], length, None, Some}
use Rattle.httparse.specs.Grammar.{RequestHead, print_request}
use Rattle.http_edge.specs.Head.{HasHead}
use Rattle.http_edge.specs.HeadFault.{fault_of}
use Rattle.http_edge.specs.HeaderFields.{fields_of, request_of}
use Rattle.http_edge.specs.RequestFraming.{length_of}
use Rattle.http_edge.specs.Stream.{IsHeadFault}
use Rattle.http_edge.specs.declared.request.EdgeFault.{EdgeFault}
use Rattle.http_edge.specs.declared.request.EdgeFault.TheVariants.{Memory}
use Rattle.http_edge.specs.declared.plan.Plan.{Plan}

-- the plan is that of the head which the bytes begin with, and the head has no fault
pub record IsPlanOf (first : List ℕ) (plan : Plan) (h : RequestHead) : Type 0 where
  pub head : HasHead first h
  pub sound : fault_of h.method (fields_of h) ≡ None
  pub len : plan.len ≡ length (print_request h)
  pub total : plan.total ≡ length (print_request h) + length_of h
  pub request : plan.request ≡ request_of h []

-- the head which the bytes begin with has this fault
pub record IsFaultOfHead (first : List ℕ) (fault : EdgeFault) (h : RequestHead) : Type 0 where
  pub head : HasHead first h
  pub is : fault_of h.method (fields_of h) ≡ Some fault
  pub kind : IsHeadFault fault

-- the plan is that of some head
abbrev pub IsPlan : List ℕ → Plan → Type 0
IsPlan first plan = (h : RequestHead) × IsPlanOf first plan h

-- the head is refused, or memory is
abbrev pub RefusesHead : List ℕ → EdgeFault → Type 0
RefusesHead first fault = (fault ≡ Memory) ⊎ ((h : RequestHead) × IsFaultOfHead first fault h)
