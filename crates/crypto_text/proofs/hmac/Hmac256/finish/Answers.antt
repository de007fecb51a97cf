use Rattle.crypto_text.specs.Rfc2104.{hmac}
use Rattle.crypto_text.proofs.hmac.Hmac256.finish.Goals as goal

pub returns : goal.returns
unfolding hmac
returns c = λ key message held. c.mac_of.ensures _ _ held.inner held.outer
