use Rattle.std.proofs.Common.{◌∙◌, arith}
use Rattle.crypto_text.proofs.Rfc4648Lemmas.{encode_of-base64url}
use Rattle.crypto_text.proofs.base64url.b64url_encode.Goals as goal

pub returns : goal.returns
returns c = c.from_string.ensures ∙ c.in_ok-encode.ensures.text ∙ encode_of-base64url _ (λ i. omega (arith, c.type_inv.bytes i))
