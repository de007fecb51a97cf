-- What the texts of entries are good for.
use Rattle.std.specs.Prelude.{◌≡◌, ℕ, List, Some}
use Rattle.ledger_rows.specs.declared.entry.Entry.{Entry}
use Rattle.entry_texts.specs.EntryReading.{entry_of}
use Rattle.entry_texts.specs.EntryText.{IsEntryText, IsWritable, text_of_entry}

-- what was written is read back
abbrev pub WrittenEntryReadsBack : Type 0
WrittenEntryReadsBack = (entry : Entry) → IsWritable entry → entry_of (text_of_entry entry) ≡ Some entry

-- a text is that of one entry at most
abbrev pub TextTellsEntry : Type 0
TextTellsEntry = (text : List ℕ) (first second : Entry) → IsEntryText text first → IsEntryText text second → first ≡ second
