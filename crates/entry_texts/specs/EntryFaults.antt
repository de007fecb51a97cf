-- How a call that reads a part of an entry ends. For private clauses.
use Rattle.std.specs.Prelude.{◌≡◌, ⊤, Option, None, Some, Result, Ok, Err}
use Rattle.ascii_json.specs.declared.reading.JsonFault.{JsonFault}
use Rattle.entry_texts.specs.declared.reading.EntryFault.{EntryFault}

-- with what a definition says, or out of memory
abbrev pub Gives : {A : Type 0} → Result A EntryFault → Option A → Type 0
Gives (Ok x) found = found ≡ Some x
Gives (Err EntryFault.Shape) found = found ≡ None
Gives (Err EntryFault.Memory) found = ⊤

-- how the faults of JSON are those of an entry's text
abbrev pub IsEntryFaultOfJson : JsonFault → EntryFault → Type 0
IsEntryFaultOfJson JsonFault.NotJson fault = fault ≡ EntryFault.Shape
IsEntryFaultOfJson JsonFault.Memory fault = fault ≡ EntryFault.Memory
