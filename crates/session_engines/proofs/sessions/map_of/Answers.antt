use Rattle.std.proofs.Common.{◌≡◌, ℕ, List, None, rules, subst}
use Rattle.session_codec.specs.SessionText.{map_of_payload}
use Rattle.ledger_rows.proofs.PayloadLemmas.{payload-not_none}
use Rattle.session_engines.proofs.sessions.map_of.Goals as goal

pub unreachable-requires : goal.unreachable-requires
unreachable-requires c =
    payload-not_none c.args.payload.now (subst (λ (text : List ℕ). map_of_payload text ≡ None) c.as_str.ensures (search rules)) c.requires
