use Rattle.std.proofs.Common.{◌≡◌, Some, sym, ap, ◌∙◌}
use Rattle.entry_texts.specs.EntryReading.{entry_of}
use Rattle.entry_texts.proofs.EntryLemmas.{text_back}
use Rattle.entry_texts.proofs.laws.text_tells_entry.Goals as goal

pub returns : goal.returns
returns c = λ text first second is_first is_second.
    let one : entry_of text ≡ Some first = ap entry_of is_first.says ∙ text_back first is_first.writable in
    let other : entry_of text ≡ Some second = ap entry_of is_second.says ∙ text_back second is_second.writable in
    let same : Some first ≡ Some second = sym one ∙ other in
    cc
