use Rattle.std.proofs.Common.{◌≡◌, length, map, All}
use Rattle.httparse.specs.Spans.{IsHeaderWithin, header_bytes}
use Rattle.http_edge.specs.HeaderFields.{values_of}
use Rattle.http_edge.proofs.header_fields.behind_first.Given as goal

abbrev pub invariant-fields : goal.invariant-fields
invariant-fields l = record {
  same : values_of l.name (map (header_bytes l.head) l.rest) ≡ values_of l.name (map (header_bytes l.head) l.fn.fields);
  within : All (IsHeaderWithin (length l.head)) l.rest;
}

abbrev pub decreases-fields : goal.decreases-fields
decreases-fields l = length l.rest
