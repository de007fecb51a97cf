use Rattle.std.proofs.Common.{refl}
use Rattle.crypto_text.proofs.Rfc4648Lemmas.{base64url-written}
use Rattle.crypto_text.proofs.base64url.b64url_of_mac.Goals as goal

pub returns : goal.returns
returns c = base64url-written _ _ _ c.fits-mac c.told-mac refl c.in-Ok.ensures.written
