-- How the faults of a text that is loaded, and of JSON, are those of one that is decoded. For private clauses.
use Rattle.std.specs.Prelude.{◌≡◌, ◌↔◌, ℕ}
use Rattle.ascii_json.specs.declared.reading.JsonFault.{JsonFault}
use Rattle.signing_core.specs.declared.signed_json.LoadFault.{LoadFault}
use Rattle.signing_core.specs.declared.signer.TimedFault.{TimedFault}
use Rattle.session_codec.specs.declared.session_text.DecodeFault.{DecodeFault}

-- what is too old is so as a session too, and out of memory stays so; the rest is corrupt
pub record IsDecodeFaultOf (loaded : LoadFault) (fault : DecodeFault) : Type 0 where
  pub expired : (age : ℕ) → (fault ≡ DecodeFault.Expired age) ↔ (loaded ≡ LoadFault.Timed (TimedFault.Expired age))
  pub memory : (fault ≡ DecodeFault.Memory) ↔ (loaded ≡ LoadFault.Memory)

abbrev pub IsDecodeFaultOfJson : JsonFault → DecodeFault → Type 0
IsDecodeFaultOfJson JsonFault.NotJson fault = fault ≡ DecodeFault.Corrupt
IsDecodeFaultOfJson JsonFault.Memory fault = fault ≡ DecodeFault.Memory
