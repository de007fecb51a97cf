use Rattle.std.proofs.Common.{◌∙◌}
use Rattle.session_codec.specs.SessionMap.{backend_name, hash_name, user_id_name}
use Rattle.session_codec.proofs.AuthLemmas.{auth_members-put}
use Rattle.session_codec.proofs.session_map.SessionMap.of_auth.Goals as goal

pub returns : goal.returns
unfolding user_id_name backend_name hash_name
returns c =
    rw (c.in_ok-set_text-3.ensures, c.in_ok-set_text-2.ensures, c.in_ok-set_text.ensures, c.new-map.ensures)
    (auth_members-put c.args.user c.args.backend.now c.args.hash.now _ (c.as_str.ensures.value ∙ c.in_ok-id.ensures.ok))
