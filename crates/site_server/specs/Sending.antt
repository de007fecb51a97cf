-- What was written of what was due, and how the run ends with it.
use Rattle.std.specs.Prelude.{◌≡◌, ◌⊎◌, ℕ, List}
use Rattle.outside.specs.Devices.{HasWritten, IsCut, Output}
use Rattle.site_server.specs.declared.status.Status.{Status}
use Rattle.site_server.specs.declared.status.Status.TheVariants.{WriteFault}

-- all that was due was written, and the run ends so; or a proper part of it was, since the output failed
abbrev pub IsSent : List ℕ → Status → Output → Output → Status → Type 0
IsSent due end before after status = ((status ≡ end) × HasWritten before after due) ⊎ ((status ≡ WriteFault) × IsCut before after due)
