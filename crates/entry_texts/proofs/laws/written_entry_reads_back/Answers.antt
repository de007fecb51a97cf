use Rattle.entry_texts.proofs.EntryLemmas.{text_back}
use Rattle.entry_texts.proofs.laws.written_entry_reads_back.Goals as goal

pub returns : goal.returns
returns c = text_back
