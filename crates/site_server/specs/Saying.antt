-- What became of one answer: it was written whole, or in part since the output failed.
use Rattle.std.specs.Prelude.{◌≡◌, ◌<◌, ◌⊎◌, ◌≢◌, ℕ, List, length, take, Option, Some, None}
use Rattle.outside.specs.Devices.{HasWritten, Output}
use Rattle.outside.specs.Faults.{Rose}
use Rattle.http_edge.specs.declared.response.Response.{Response}
use Rattle.site_server.specs.Transcript.{end_after, text_of}
use Rattle.site_server.specs.declared.connection.End.{End}
use Rattle.site_server.specs.declared.connection.End.TheVariants.{WriteFault}

-- so much of the text was written, and the connection ends so, where it does
abbrev pub HasPut : List ℕ → Option End → List ℕ → Option End → Type 0
HasPut text ending written end =
    ((written ≡ text) × (end ≡ ending))
    ⊎ ((count : ℕ) × (count < length text) × (written ≡ take count text) × (end ≡ Some WriteFault))

-- a text was put out
pub record IsPut (text : List ℕ) (ending : Option End) (before after : Output) (end : Option End) : Type 0 where
  pub written : List ℕ
  pub wrote : HasWritten before after written
  pub is : HasPut text ending written end
  pub cause : end ≡ Some WriteFault → ending ≢ Some WriteFault → Rose before.faults after.faults

-- an answer was put out, or in its place the response for being out of memory, since making its text takes memory
abbrev pub IsSaidOf : Option Response → Output → Output → Option End → Type 0
IsSaidOf answer before after end =
    IsPut (text_of answer) (end_after answer) before after end ⊎ IsPut (text_of None) (end_after None) before after end
