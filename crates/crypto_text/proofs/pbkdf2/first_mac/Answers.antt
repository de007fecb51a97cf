use Rattle.std.proofs.Common.{append_assoc}
use Rattle.crypto_text.specs.Rfc2104.{hmac}
use Rattle.crypto_text.proofs.pbkdf2.first_mac.Goals as goal

pub returns : goal.returns
unfolding hmac
returns g c = λ password inner outer.
    let keyed = rw (← c.twin-state.ensures) at inner in
    let whole = c.take_in-2.ensures _ (c.take_in.ensures _ keyed) in
    let outer_keyed = rw (← c.twin.ensures) at outer in
    let mac = c.mac_of.ensures _ _ whole outer_keyed in
    rw (append_assoc, c.to_be_bytes.ensures) at mac
