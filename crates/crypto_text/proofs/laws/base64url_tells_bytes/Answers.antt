use Rattle.crypto_text.proofs.Rfc4648Lemmas.{base64url-injective}
use Rattle.crypto_text.proofs.laws.base64url_tells_bytes.Goals as goal

pub returns : goal.returns
returns c = base64url-injective
