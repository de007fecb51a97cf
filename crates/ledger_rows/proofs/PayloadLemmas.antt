-- A payload is read as its own map.
use Rattle.std.proofs.Common.{◌≡◌, ◌↔◌, ℕ, List, Some, None, Result, Ok, Err, IfOk, IsTrue, true, false, Bool, ap, sym, ◌∙◌}
use Rattle.serde_json.specs.Data.{Members}
use Rattle.session_codec.specs.SessionMap.{IsSession}
use Rattle.session_codec.specs.SessionText.{map_of_payload, payload_of}
use Rattle.session_codec.proofs.DecodedLemmas.{payload_reads_back}
use Rattle.ledger_rows.specs.Replies.{IsPayload}

pub payload-reads : (text : List ℕ) (payload : IsPayload text) → map_of_payload text ≡ Some payload.map
payload-reads text payload = ap map_of_payload payload.whole ∙ payload_reads_back payload.map payload.held

pub payload-of_read : (text : List ℕ) (map : Members) → map_of_payload text ≡ Some map → IsPayload text → text ≡ payload_of map
payload-of_read text map read payload =
    let same : Some payload.map ≡ Some map = sym (payload-reads text payload) ∙ read in
    let maps : payload.map ≡ map = cc in
    payload.whole ∙ ap payload_of maps

pub payload-not_none : (text : List ℕ) → map_of_payload text ≡ None → ¬ IsPayload text
payload-not_none text read payload =
    let same : Some payload.map ≡ None = sym (payload-reads text payload) ∙ read in cc

-- a text is a payload exactly where it is that of the map that it is read as
pub payload-by_read : (text : List ℕ) (map : Members) (same : Bool) → map_of_payload text ≡ Some map → IsSession map
    → (IsTrue same ↔ (text ≡ payload_of map)) → IsTrue same ↔ IsPayload text
payload-by_read text map same read held whole = (
  λ yes. record { map = map; held = held; whole = whole.0 yes },
  λ payload. whole.1 (payload-of_read text map read payload),
)

-- the same, where there may be no memory
pub payload-by_result : {E : Type 0} (text : List ℕ) (map : Members) (result : Result Bool E) → map_of_payload text ≡ Some map → IsSession map
    → IfOk result (λ same. IsTrue same ↔ (text ≡ payload_of map)) → IfOk result (λ ok. IsTrue ok ↔ IsPayload text)
payload-by_result text map (Ok same) read held whole = payload-by_read text map same read held whole
payload-by_result text map (Err fault) read held whole = tt

-- a text that is read as no map is no payload
pub payload-by_none : (text : List ℕ) → map_of_payload text ≡ None → IsTrue false ↔ IsPayload text
payload-by_none text read = (λ no. let wrong : false ≡ true = no in cc, λ payload. absurd (payload-not_none text read payload))
