use Rattle.std.proofs.Common.{◌≡◌, [], length}
use Rattle.std.specs.Str.{IsUtf8}
use Rattle.middleware_chain.specs.Fields.{last_value_after}
use Rattle.middleware_chain.proofs.fields.last_value.Given as goal

abbrev pub invariant-fields : goal.invariant-fields
invariant-fields l = record {
  same : last_value_after l.name l.left l.found ≡ last_value_after l.name l.fn.fields [];
  utf8 : IsUtf8 l.found;
}

abbrev pub decreases-fields : goal.decreases-fields
decreases-fields l = length l.left
