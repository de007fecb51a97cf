use Rattle.crypto_text.proofs.Rfc4648Lemmas.{AreLetters-base64url}
use Rattle.crypto_text.proofs.laws.base64url_is_plain.Goals as goal

pub returns : goal.returns
returns c = AreLetters-base64url
