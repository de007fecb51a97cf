use Rattle.std.proofs.Common.{◌∙◌, ap, refl, sym}
use Rattle.base64.specs.Engines.{url_safe_no_pad}
use Rattle.base64.specs.GeneralPurpose.{decode_of}
use Rattle.crypto_text.specs.Rfc4648.{base64url}
use Rattle.crypto_text.proofs.Rfc4648Lemmas.{decode_of-base64url, encode_of-base64url}
use Rattle.crypto_text.proofs.base64url.b64url_decode.Goals as goal

pub returns-in-Ok-clause-ok : goal.returns-in-Ok-clause-ok
returns-in-Ok-clause-ok c =
    sym c.as_bytes.ensures.value ∙ c.in-Ok.ensures.exact (refl, refl) ∙ encode_of-base64url _ c.in-Ok.ensures.bytes ∙ ap base64url (sym c.from_vec.ensures)

pub returns-in-Err-DecodeError-clause-not_base64 : goal.returns-in-Err-DecodeError-clause-not_base64
returns-in-Err-DecodeError-clause-not_base64 c = λ refused found.
    let failed = rw c.in-Err-DecodeError.field-0-is at c.in-Err-DecodeError.ensures.err in
    let decoded = ap (decode_of url_safe_no_pad) (c.as_bytes.ensures.value ∙ found.2) ∙ decode_of-base64url found.0 found.1 in
    cc (failed, decoded)
