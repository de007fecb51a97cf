use Rattle.std.proofs.Common.{arith}
use Rattle.crypto_text.proofs.DecodeSliceLemmas.{IsBase64urlWithin-not_None, IsDecodedInto-from_Ok}
use Rattle.crypto_text.proofs.base64url.b64url_decode_slice.Goals as goal

pub returns-clause-some : goal.returns-clause-some
returns-clause-some c =
    let text = c.as_bytes.ensures.value in
    rw (c.ok.ensures.value, ← text)
    (IsDecodedInto-from_Ok _ _ _ c.decode_slice.result (λ i. rw text (omega (arith, c.type_inv.text i))) c.decode_slice.ensures.value c.decode_slice.ensures.written c.decode_slice.ensures.bytes)

pub returns-clause-none : goal.returns-clause-none
returns-clause-none c =
    rw (c.ok.ensures.value, ← c.as_bytes.ensures.value) (IsBase64urlWithin-not_None _ _ c.decode_slice.result c.decode_slice.ensures.value)
