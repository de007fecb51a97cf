use Rattle.std.proofs.Common.{◌≡◌, string_bytes}
use Rattle.std.specs.Prelude.{flat_map}
use Rattle.ascii_json.specs.Escaping.{escaped_beyond_ascii}
use Rattle.ascii_json.proofs.writing.to_ascii.Given as goal

abbrev pub invariant-loop-c : goal.invariant-loop-c
invariant-loop-c l = string_bytes l.out ≡ flat_map escaped_beyond_ascii l.yielded
