-- What the search for a head says of the first bytes.
use Rattle.std.specs.Prelude.{ℕ, List}
use Rattle.httparse.specs.Grammar.{HasNoRequest}
use Rattle.httparse.specs.Spans.{IsRequestWithin, IsRequestOf}
use Rattle.httparse.specs.declared.spans.HeaderSpan.{HeaderSpan}
use Rattle.http_edge.specs.Head.{MayBeginHead}
use Rattle.http_edge.specs.declared.request_head.Sight.{Sight}
use Rattle.http_edge.specs.declared.request_head.Sight.TheVariants.{Head, Begun, Never}

-- a head is there, or may come, or never comes
abbrev pub IsSight : List ℕ → List HeaderSpan → Sight → Type 0
IsSight first spans (Head found) = IsRequestWithin first spans found × IsRequestOf first spans found
IsSight first spans Begun = HasNoRequest first × MayBeginHead first
IsSight first spans Never = HasNoRequest first × (MayBeginHead first → ⊥)
