-- Hexadecimal text is what the library below writes.
use Rattle.std.proofs.Common.{◌≡◌, ℕ, ◌*◌, ◌/◌, ◌%◌, List, [], ◌∷◌, length, slice_index, refl, sym, ap, ◌∙◌}
use Rattle.hex.specs.Hex.{decode_of, encode_lower, encode_with, lower_digits, IsBytes}
use Rattle.hex.proofs.HexLemmas.{decode_of-encode_lower, length-encode_with}
use Rattle.crypto_text.specs.Hexadecimal.{hex_digits, hex_text}

pub encode_lower-hex_text : (bytes : List ℕ) → encode_lower bytes ≡ hex_text bytes
unfolding encode_with hex_text hex_digits
encode_lower-hex_text [] = refl
encode_lower-hex_text (byte ∷ rest) =
    ap (λ (text : List ℕ). slice_index lower_digits (byte / 16) ∷ slice_index lower_digits (byte % 16) ∷ text) (encode_lower-hex_text rest)

-- two digits a byte
pub length-hex_text : (bytes : List ℕ) → length (hex_text bytes) ≡ 2 * length bytes
length-hex_text bytes = ap (λ (text : List ℕ). length text) (sym (encode_lower-hex_text bytes)) ∙ length-encode_with lower_digits bytes

-- bytes are told by their digits
pub hex_text-injective : (a b : List ℕ) → IsBytes a → IsBytes b → hex_text a ≡ hex_text b → a ≡ b
hex_text-injective a b a_bytes b_bytes same =
    let texts : encode_lower a ≡ encode_lower b = encode_lower-hex_text a ∙ same ∙ sym (encode_lower-hex_text b) in
    let back = sym (decode_of-encode_lower a a_bytes) ∙ ap decode_of texts ∙ decode_of-encode_lower b b_bytes in
    cc back
