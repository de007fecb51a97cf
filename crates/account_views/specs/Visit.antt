-- Who came, and with which session, by the reply to the load, as Django's `get_user` finds it.
use Rattle.std.specs.Prelude.{ℕ, Bool, true, false, nat_lt, if◌then◌else◌, List, Option, None, Some, unwrap_or}
use Rattle.serde_json.specs.Data.{Members, no_members}
use Rattle.session_codec.specs.SessionText.{map_of_payload}
use Rattle.ledger_rows.specs.declared.reply.Reply.{Reply}
use Rattle.ledger_rows.specs.declared.reply.Reply.TheVariants.{Loaded}
use Rattle.ledger_rows.specs.declared.reply.UserRead.{UserRead}
use Rattle.ledger_rows.specs.declared.verdict.Verdict.{Verdict}
use Rattle.ledger_rows.specs.declared.verdict.Verdict.TheVariants.{BadHash, Admitted}
use Rattle.auth_backends.specs.SessionBox.{flushed, rehashed}
use Rattle.auth_backends.specs.declared.session_box.SessionBox.{SessionBox}
use Rattle.account_views.specs.declared.visit.Visit.{Visit}

-- the map that a payload says
abbrev pub map_in : List ℕ → Members
map_in payload = unwrap_or (map_of_payload payload) no_members

-- a session as it was loaded; to load it is to read it
abbrev pub opened : Bool → Option (List ℕ) → Members → SessionBox
opened came key map = record { came = came; key = key; map = map; dropped = None; cycle = false; accessed = true; modified = false }

-- a session under a fallback key gets the hash of the first one, and a new key: Django's `get_user`
abbrev pub admitted : ℕ → UserRead → SessionBox → Visit
admitted key_index read session = record { session = if nat_lt 0 key_index then rehashed read.auth_hash session else session; user = Some read }

-- a session whose hash is none of its user's is flushed
abbrev pub met : Verdict → Option UserRead → SessionBox → Visit
met BadHash user session = record { session = flushed session; user = None }
met (Admitted key_index) (Some read) session = admitted key_index read session
met _ user session = record { session = session; user = None }

-- a reply of another kind is that of a visitor of whom nothing is known
abbrev pub visit_of : Bool → Reply → Visit
visit_of came (Loaded verdict key payload user) = met verdict user (opened came key (map_in payload))
visit_of came _ = record { session = opened came None no_members; user = None }
