-- What a payload says.
use Rattle.std.proofs.Common.{◌≡◌, ℕ, ◌^◌, ◌<◌, List, [], Some, arith, get_or, inl, inr, length, refl, sym, ◌∙◌, subst}
use Rattle.std.proofs.lemmas.Bool.{cases_lt}
use Rattle.std.proofs.lemmas.List.{get_or_past}
use Rattle.std.specs.List.{Contains}
use Rattle.serde_json.specs.Data.{Data}
use Rattle.ascii_json.specs.declared.reading.JsonFault.{JsonFault}
use Rattle.ascii_json.specs.Profile.{IsProfile, Reads}
use Rattle.ascii_json.specs.AsciiJson.{json_of}
use Rattle.ascii_json.specs.Representable.{IsRepresentable}
use Rattle.ascii_json.proofs.WrittenReadsBack.{json_printable, reads_back}
use Rattle.crypto_text.specs.Rfc4648.{IsBytes, base64url}
use Rattle.crypto_text.proofs.Rfc4648Lemmas.{base64url-injective}
use Rattle.signing_core.specs.declared.signed_json.LoadFault.{LoadFault}
use Rattle.signing_core.specs.LoadFaults.{IsLoadFaultOfJson}
use Rattle.signing_core.specs.SignedJson.{IsDumped, IsPayloadOf, SaysValue, dumped_text, encoded_json}
use Rattle.signing_core.proofs.SignatureLemmas.{base64url_is_no_mark, timestamped_text_tells_value, timestamped_while_listed}

-- the bytes that were written as the payload are JSON text of the value that it says
pub json_says : (payload json : List ℕ) (d : Data) → payload ≡ base64url json → IsBytes json → SaysValue payload d → Reads json d
json_says payload json d encoded bytes says =
    let same : says.json ≡ json = base64url-injective says.json json says.payload_of_json.bytes bytes (sym says.payload_of_json.encoded ∙ encoded) in
    subst (λ text. Reads text d) same says.reads

pub reads_once : (text : List ℕ) (first second : Data) → Reads text first → Reads text second → first ≡ second
reads_once text first second reads_first reads_second =
    let same : Some first ≡ Some second = sym reads_first.says ∙ reads_second.says in
    cc

-- ASCII text has bytes alone
IsBytes-json_of : (d : Data) → IsRepresentable d → IsBytes (json_of d)
IsBytes-json_of d representable i = elim (cases_lt i (length (json_of d))) [
  | inl within ↦ let printable = json_printable d representable i 0 within in omega (arith, printable.1)
  | inr past ↦ let none : get_or (json_of d) i 0 ≡ 0 = get_or_past (json_of d) i 0 past in omega arith
]

pub dumped_while_listed : (d : Data) (salt key : List ℕ) (time : ℕ) (keys : List (List ℕ)) → IsRepresentable d → IsProfile d → time < 2 ^ 64 → Contains keys key
    → IsDumped (dumped_text d salt key time) d time salt keys
dumped_while_listed d salt key time keys representable profile fits listed = record {
  payload = encoded_json d;
  timestamped = timestamped_while_listed (encoded_json d) [] salt key time keys fits listed;
  says = record {
    json = json_of d;
    payload_of_json = record { uncompressed = base64url_is_no_mark (json_of d); bytes = IsBytes-json_of d representable; encoded = refl };
    reads = reads_back d representable profile;
  };
}

pub dumped_text_tells_value : (text salt other_salt : List ℕ) (first second : Data) (first_time second_time : ℕ) (keys other_keys : List (List ℕ))
    → IsDumped text first first_time salt keys → IsDumped text second second_time other_salt other_keys → (first ≡ second) × (first_time ≡ second_time)
dumped_text_tells_value text salt other_salt first second first_time second_time keys other_keys a b =
    let same = timestamped_text_tells_value text a.payload b.payload [] salt [] other_salt first_time second_time keys other_keys a.timestamped b.timestamped in
    let first_says : SaysValue b.payload first = subst (λ p. SaysValue p first) same.0 a.says in
    let reads : Reads b.says.json first = json_says b.payload b.says.json first b.says.payload_of_json.encoded b.says.payload_of_json.bytes first_says in
    (reads_once b.says.json first second reads b.says.reads, same.1)

-- a payload is that of one list of bytes
pub payload_once : (payload json other : List ℕ) → payload ≡ base64url json → IsBytes json → IsPayloadOf payload other → json ≡ other
payload_once payload json other encoded bytes is = base64url-injective json other bytes is.bytes (sym encoded ∙ is.encoded)

-- where the bytes of a payload that says a value weren't read, it was for memory
pub json_unread : (payload json : List ℕ) (d : Data) (fault : JsonFault) (loaded : LoadFault) → payload ≡ base64url json → IsBytes json → IsLoadFaultOfJson fault loaded
    → ((¬ (fault ≡ JsonFault.Memory)) → (fault ≡ JsonFault.NotJson) → ¬ Reads json d) → SaysValue payload d → loaded ≡ LoadFault.Memory
json_unread payload json d JsonFault.NotJson loaded encoded bytes comes none says = absurd (none (λ memory. absurd (cc)) refl (json_says payload json d encoded bytes says))
json_unread payload json d JsonFault.Memory loaded encoded bytes comes none says = comes
