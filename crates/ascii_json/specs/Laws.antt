-- What writing and reading are good for.
use Rattle.std.specs.Prelude.{◌≡◌, ℕ, List, All}
use Rattle.serde_json.specs.Data.{Data}
use Rattle.ascii_json.specs.AsciiJson.{IsPrintable, json_of}
use Rattle.ascii_json.specs.Profile.{IsProfile, Reads}
use Rattle.ascii_json.specs.Representable.{IsRepresentable}

-- what was written is read back
abbrev pub WrittenReadsBack : Type 0
WrittenReadsBack = (d : Data) → IsRepresentable d → IsProfile d → Reads (json_of d) d

-- bytes are the text of one value at most
abbrev pub TextTellsValue : Type 0
TextTellsValue = (text : List ℕ) (first second : Data) → Reads text first → Reads text second → first ≡ second

-- what was written is ASCII that can be seen
abbrev pub WrittenIsPrintable : Type 0
WrittenIsPrintable = (d : Data) → IsRepresentable d → All IsPrintable (json_of d)
