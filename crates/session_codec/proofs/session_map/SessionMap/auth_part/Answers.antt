use Rattle.std.proofs.Common.{sym}
use Rattle.session_codec.proofs.AuthLemmas.{auth_of-no_user}
use Rattle.session_codec.proofs.session_map.SessionMap.auth_part.Goals as goal

pub returns-in-None : goal.returns-in-None
returns-in-None c = auth_of-no_user c.args.self.now (sym c.in-None.ensures)
