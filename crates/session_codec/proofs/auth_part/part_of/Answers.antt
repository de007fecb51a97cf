use Rattle.std.proofs.Common.{sym}
use Rattle.session_codec.proofs.AuthLemmas.{auth_of-Some, auth_of-no_backend}
use Rattle.session_codec.proofs.auth_part.part_of.Goals as goal

pub returns-in-Some : goal.returns-in-Some
returns-in-Some c = auth_of-Some c.args.map.now c.args.user _ _ c.requires (sym c.in-Some.ensures) (sym c.hash_of-hash.ensures)

pub returns-in-None : goal.returns-in-None
returns-in-None c = auth_of-no_backend c.args.map.now c.args.user c.requires (sym c.in-None.ensures)
