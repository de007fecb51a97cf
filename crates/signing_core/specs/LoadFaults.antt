-- How the faults of base64url and of JSON are those of a text that is loaded. For private clauses.
use Rattle.std.specs.Prelude.{◌≡◌}
use Rattle.ascii_json.specs.declared.reading.JsonFault.{JsonFault}
use Rattle.crypto_text.specs.declared.base64url.B64Fault.{B64Fault}
use Rattle.signing_core.specs.declared.signed_json.LoadFault.{LoadFault}
use Rattle.signing_core.specs.declared.signed_json.LoadFault.TheVariants.{Memory, NotBase64, NotJson}

abbrev pub IsLoadFaultOfBase64 : B64Fault → LoadFault → Type 0
IsLoadFaultOfBase64 B64Fault.NotBase64 fault = fault ≡ NotBase64
IsLoadFaultOfBase64 B64Fault.Memory fault = fault ≡ Memory

abbrev pub IsLoadFaultOfJson : JsonFault → LoadFault → Type 0
IsLoadFaultOfJson JsonFault.NotJson fault = fault ≡ NotJson
IsLoadFaultOfJson JsonFault.Memory fault = fault ≡ Memory
