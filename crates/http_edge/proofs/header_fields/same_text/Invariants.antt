use Rattle.std.proofs.Common.{◌≡◌, length}
use Rattle.http_edge.specs.HeaderFields.{same_but_case}
use Rattle.http_edge.proofs.header_fields.same_text.Given as goal

abbrev pub invariant-letters : goal.invariant-letters
invariant-letters l = same_but_case l.a l.b ≡ same_but_case l.fn.a l.fn.b

abbrev pub decreases-letters : goal.decreases-letters
decreases-letters l = length l.a
