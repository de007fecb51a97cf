use Rattle.session_codec.proofs.AuthLemmas.{says_user, positive_of-Some}
use Rattle.session_codec.proofs.laws.user_id_is_decimal.Goals as goal

pub returns : goal.returns
returns c = λ text user. (says_user text user, positive_of-Some text user)
