-- Digits are read as the one id that has them.
use Rattle.std.proofs.Common.{Option, lit<, Some, ◌↔◌, ◌≡◌, ℕ, ◌^◌, ◌<◌, List, sym, ap, ◌∙◌, arith}
use Rattle.std.specs.Fmt.{decimal}
use Rattle.std.specs.Str.{IsUtf8}
use Rattle.std.proofs.lemmas.Fmt.{IsAscii-decimal, decimal_injective, length-decimal-le}
use Rattle.std.proofs.lemmas.Str.{IsUtf8-from_ascii}
use Rattle.crypto_text.specs.Rfc4648.{IsBase64urlWithin, IsBytes, base64url}
use Rattle.crypto_text.proofs.Rfc4648Lemmas.{base64url-injective}
use Rattle.reset_tokens.specs.UserIdText.{IsUidText, IsUserId, uid_text}

-- the digits of an id are ASCII
pub IsUtf8-id : (digits : List ℕ) (id : ℕ) → IsUserId id × (digits ≡ decimal id) → IsUtf8 digits
IsUtf8-id digits id is = rw is.1 (IsUtf8-from_ascii (decimal id) (IsAscii-decimal id is.0.1))

pub IsBytes-decimal : (id : ℕ) → id < 2 ^ 64 → IsBytes (decimal id)
IsBytes-decimal id small i = omega (arith, IsAscii-decimal id small i)

pub uid_text-injective : (a b : ℕ) → a < 2 ^ 64 → b < 2 ^ 64 → uid_text a ≡ uid_text b → a ≡ b
unfolding uid_text
uid_text-injective a b first second same =
    decimal_injective a b first second (base64url-injective (decimal a) (decimal b) (IsBytes-decimal a first) (IsBytes-decimal b second) same)

-- the text of an id is that of at most 20 digits
pub IsBase64urlWithin-uid : (text : List ℕ) (id : ℕ) → IsUidText text id → IsBase64urlWithin 20 text
unfolding uid_text
IsBase64urlWithin-uid text id is =
    let room : 2 ^ 64 < 10 ^ 20 = lit< tt in
    (decimal id, IsBytes-decimal id is.0.1, length-decimal-le 20 id (omega arith) (omega (arith, is.0.1)) is.0.1, is.1)

-- a decoded text is the one of the id whose digits were written
pub IsUidText-decoded : (text digits : List ℕ) (r : Option ℕ) → text ≡ base64url digits → IsBytes digits
    → ((id : ℕ) → (r ≡ Some id) ↔ (IsUserId id × (digits ≡ decimal id))) → (id : ℕ) → (r ≡ Some id) ↔ IsUidText text id
unfolding uid_text
IsUidText-decoded text digits r decoded bytes reads id = (
  λ is. let read = (reads id).0 is in (read.0, decoded ∙ ap base64url read.1),
  λ written. (reads id).1 (written.0, base64url-injective digits (decimal id) bytes (IsBytes-decimal id written.0.1) (sym decoded ∙ written.1)),
)
