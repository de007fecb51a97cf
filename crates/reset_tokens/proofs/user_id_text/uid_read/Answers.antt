use Rattle.reset_tokens.proofs.UserIdTextLemmas.{IsBase64urlWithin-uid, IsUidText-decoded}
use Rattle.reset_tokens.proofs.user_id_text.uid_read.Goals as goal

pub returns-in_err-length : goal.returns-in_err-length
returns-in_err-length c = rw c.from_residual.ensures (λ id. (
  λ is. absurd (cc),
  λ written. absurd (c.in_err-length.ensures.none (IsBase64urlWithin-uid _ id written)),
))

pub returns : goal.returns
returns c = IsUidText-decoded _ _ c.id_of.result c.in_ok-length.ensures.some.text_of_front c.id_of.ensures.bytes c.id_of.ensures.id
