use Rattle.std.proofs.Common.{◌≡◌, ◌+◌, length}
use Rattle.form_urlencoded.specs.Form.{raw_pairs}
use Rattle.form_urlencoded.specs.Parse.{raw_pairs_left}
use Rattle.http_edge.proofs.form_field.field_count.Given as goal

abbrev pub invariant-loop-pair : goal.invariant-loop-pair
invariant-loop-pair l = l.count + length (raw_pairs_left l._pair-iterator) ≡ length (raw_pairs l.bytes)
