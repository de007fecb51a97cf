-- `Signature.IsTimestamped` and `SignedJson.IsDumped` read as functions, for texts without a prefix: what a text is taken apart
-- into. The laws `SignedValueIsTimestamped` and `BytesAreEncoded` say that they are those definitions.
use Rattle.std.specs.Prelude.{ℕ, ◌^◌, ◌==◌, ◌&&◌, Bool, List, [], ◌∷◌, length, nat_lt, if◌then◌else◌, Option, None, Some, bytes_eq, option_and_then, option_map}
use Rattle.std.specs.List.{list_all, list_any}
use Rattle.std.specs.Result.{result_ok}
use Rattle.base64.specs.Engines.{url_safe_no_pad}
use Rattle.base64.specs.GeneralPurpose.{decode_of}
use Rattle.crypto_text.specs.Numeral.{base62_digits, value_of}
use Rattle.crypto_text.specs.Rfc4648.{base64url}
use Rattle.signing_core.specs.Signature.{separator, signature_of}

-- the parts of a text, if one has them after its first byte
abbrev pub parts_after : ℕ → List ℕ → Option (List ℕ × List ℕ) → Option (List ℕ × List ℕ)
parts_after c rest (Some parts) = Some (c ∷ parts.0, parts.1)
parts_after c rest None = if c == separator then Some ([], rest) else None

-- the parts before and after the last colon
abbrev pub parts_at_last_colon : List ℕ → Option (List ℕ × List ℕ)
parts_at_last_colon [] = None
parts_at_last_colon (c ∷ rest) = parts_after c rest (parts_at_last_colon rest)

-- whether a text is the signature of another under one of the keys
abbrev pub is_signature_of : List ℕ → List (List ℕ) → List ℕ → List ℕ → Bool
is_signature_of salt keys text signature = list_any (λ key. bytes_eq signature (signature_of text [] salt key)) keys

-- what was signed under one of the keys
unfoldable pub signed_part : List ℕ → List ℕ → List (List ℕ) → Option (List ℕ)
signed_part text salt keys = option_and_then (λ parts. if is_signature_of salt keys parts.0 parts.1 then Some parts.0 else None) (parts_at_last_colon text)

-- the number below 2^64 whose numeral in base 62 the digits are
unfoldable pub time_of : List ℕ → Option ℕ
time_of digits =
    if nat_lt 0 (length digits) && list_all (λ c. list_any (λ digit. digit == c) base62_digits) digits && nat_lt (value_of base62_digits digits) (2 ^ 64)
    then Some (value_of base62_digits digits) else None

-- the value and the moment that are joined by the last colon
unfoldable pub timed_parts : List ℕ → Option (List ℕ × ℕ)
timed_parts rest = option_and_then (λ parts. option_map (λ time. (parts.0, time)) (time_of parts.1)) (parts_at_last_colon rest)

-- the value and the moment that were signed together under one of the keys
unfoldable pub signed_value : List ℕ → List ℕ → List (List ℕ) → Option (List ℕ × ℕ)
signed_value text salt keys = option_and_then timed_parts (signed_part text salt keys)

-- the bytes whose base64url a text is
unfoldable pub bytes_of : List ℕ → Option (List ℕ)
bytes_of text =
    option_and_then (λ bytes. if list_all (λ byte. nat_lt byte 256) bytes && bytes_eq text (base64url bytes) then Some bytes else None)
    (result_ok (decode_of url_safe_no_pad text))
