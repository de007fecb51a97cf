use Rattle.crypto_text.specs.Rfc2104.{hmac}
use Rattle.crypto_text.proofs.pbkdf2.next_mac.Goals as goal

pub returns : goal.returns
unfolding hmac
returns g c = λ password inner outer.
    c.mac_of.ensures _ _ (c.take_in.ensures _ (rw c.twin-state.ensures inner)) (rw c.twin.ensures outer)
