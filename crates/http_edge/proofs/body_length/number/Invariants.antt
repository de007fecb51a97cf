use Rattle.std.proofs.Common.{◌≡◌, length, true}
use Rattle.std.specs.List.{list_all}
use Rattle.std.specs.Char.{is_ascii_digit}
use Rattle.std.specs.Str.Parse.{digits_value, digits_value_after}
use Rattle.http_edge.proofs.body_length.number.Given as goal

abbrev pub invariant-digits : goal.invariant-digits
invariant-digits l = record {
  same : digits_value_after 10 l.value l.rest ≡ digits_value 10 l.fn.text;
  digits : list_all is_ascii_digit l.rest ≡ true;
}

abbrev pub decreases-digits : goal.decreases-digits
decreases-digits l = length l.rest
