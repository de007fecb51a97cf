-- The payload of a session without entries.
use Rattle.std.proofs.Common.{◌≡◌, ℕ, List, true, bytes_eq, codes, sym, ap, ◌∙◌}
use Rattle.std.proofs.lemmas.Slice.Eq.{bytes_eq-Decides}
use Rattle.serde_json.specs.Data.{no_members}
use Rattle.account_views.specs.Visit.{map_in}
use Rattle.account_views.proofs.LoginLemmas.{map_in-payload_of}
use Rattle.account_views.proofs.ProperLogin.{empty-session}

-- a session with the payload `{}` has no entries
pub empty_payload_reads : (payload : List ℕ) → true ≡ bytes_eq payload (codes "{}") → no_members ≡ map_in payload
empty_payload_reads payload is =
    sym (map_in-payload_of no_members empty-session) ∙ ap map_in (sym ((bytes_eq-Decides payload (codes "{}")).0 (sym is)))
