-- Which heads are refused, and how long the body is (RFC 9112, section 6; the limits and their order are this project's own).
use Rattle.std.specs.Prelude.{ℕ, Bool, true, ◌&&◌, ◌||◌, not, nat_lt, nat_le, if◌then◌else◌, List, length, codes, Option, Some, None}
use Rattle.std.specs.List.{list_all}
use Rattle.std.specs.Char.{is_ascii_digit}
use Rattle.std.specs.Str.{bytes_eq}
use Rattle.std.specs.Str.Parse.{digits_value}
use Rattle.http_edge.specs.HeaderFields.{values_of, first_value}
use Rattle.http_edge.specs.declared.request.EdgeFault.{EdgeFault}
use Rattle.http_edge.specs.declared.request.EdgeFault.TheVariants.{BadHead, HeadTooLong, TransferCoding, ContentCoding, NoLength, BodyTooLong}

-- some field has this name
abbrev pub occurs : List ℕ → List (List ℕ × List ℕ) → Bool
occurs name fields = nat_lt 0 (length (values_of name fields))

-- some field after the first with this name has it again
abbrev pub occurs_twice : List ℕ → List (List ℕ × List ℕ) → Bool
occurs_twice name fields = nat_lt 1 (length (values_of name fields))

-- one to fifteen digits
abbrev pub is_length : List ℕ → Bool
is_length text = nat_lt 0 (length text) && nat_le (length text) 15 && list_all is_ascii_digit text

-- there is no length, or it is one to fifteen digits
abbrev pub fits_length : Option (List ℕ) → Bool
fits_length None = true
fits_length (Some text) = is_length text

-- there is no content coding, or it is `identity`, byte for byte
abbrev pub is_uncoded : Option (List ℕ) → Bool
is_uncoded None = true
is_uncoded (Some coding) = bytes_eq coding (codes "identity")

-- the length of a body, and 0 where none is stated
abbrev pub body_length : Option (List ℕ) → ℕ
body_length None = 0
body_length (Some text) = digits_value 10 text

-- the length that the fields state, the first where there are more
abbrev pub stated_length : List (List ℕ × List ℕ) → Option (List ℕ)
stated_length fields = first_value (values_of (codes "content-length") fields)

-- the coding that the fields state
abbrev pub stated_coding : List (List ℕ × List ℕ) → Option (List ℕ)
stated_coding fields = first_value (values_of (codes "content-encoding") fields)

-- the fault of a head whose method and fields are these, the first that holds
unfoldable pub fault_of : List ℕ → List (List ℕ × List ℕ) → Option EdgeFault
fault_of method fields =
    if occurs_twice (codes "host") fields || occurs_twice (codes "content-length") fields || not (fits_length (stated_length fields))
    then Some BadHead
    else (if nat_lt 100 (length fields) then Some HeadTooLong
    else (if occurs (codes "transfer-encoding") fields then Some TransferCoding
    else (if not (is_uncoded (stated_coding fields)) then Some ContentCoding
    else (if bytes_eq method (codes "POST") && not (occurs (codes "content-length") fields) then Some NoLength
    else (if nat_lt 2621440 (body_length (stated_length fields)) then Some BodyTooLong
    else None)))))
