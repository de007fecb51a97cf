use Rattle.crypto_text.proofs.TextListLemmas.{are_different-sorted}
use Rattle.crypto_text.proofs.text_list.are_different.Goals as goal

pub returns : goal.returns
returns c =
    are_different-sorted c.args.texts.items c.sort_unstable.new.self.items c.neighbours_differ.result c.sort_unstable.ensures.permutation c.sort_unstable.ensures.sorted
    (rw c.as_slice.ensures.value at c.neighbours_differ.ensures)
