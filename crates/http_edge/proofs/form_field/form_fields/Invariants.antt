use Rattle.std.proofs.Common.{◌≡◌, ◌++◌, map}
use Rattle.form_urlencoded.specs.Parse.{raw_pairs_left}
use Rattle.http_edge.specs.FormFields.{field_of, fields_of}
use Rattle.http_edge.proofs.form_field.form_fields.Given as goal

abbrev pub invariant-loop-name : goal.invariant-loop-name
invariant-loop-name l = l.fields.items ++ map field_of (raw_pairs_left l.name-iterator) ≡ fields_of l.bytes
