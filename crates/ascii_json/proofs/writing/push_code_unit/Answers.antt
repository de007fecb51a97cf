use Rattle.std.proofs.Common.{rules, append_assoc}
use Rattle.ascii_json.specs.AsciiJson.{unicode_escape}
use Rattle.ascii_json.proofs.writing.push_code_unit.Goals as goal

pub returns : goal.returns
unfolding unicode_escape
returns c = search (rules, append_assoc)
