use Rattle.crypto_text.proofs.Rfc4648Lemmas.{length-base64url}
use Rattle.crypto_text.proofs.laws.base64url_has_length.Goals as goal

pub returns : goal.returns
returns c = length-base64url
