use Rattle.std.proofs.Common.{◌≡◌, Some, sym, ◌∙◌}
use Rattle.ascii_json.proofs.laws.text_tells_value.Goals as goal

pub returns : goal.returns
returns c = λ text first second reads_first reads_second.
    let same : Some first ≡ Some second = sym reads_first.says ∙ reads_second.says in
    cc
