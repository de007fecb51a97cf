-- `SessionText.Encodes` read as a function: what a text is taken apart into. The laws `DecodedIsEncoded`
-- and `DecodedExpires` say that it is that definition.
use Rattle.std.specs.Prelude.{ℕ, ◌==◌, ◌&&◌, not, Bool, false, List, slice_index, nat_lt, nat_le, if◌then◌else◌, Option, None, Some, Result, Ok, Err, option_and_then}
use Rattle.std.specs.Str.{is_utf8}
use Rattle.serde_json.specs.Data.{Members, depth}
use Rattle.serde_json.specs.Find.{as_object}
use Rattle.serde_json.specs.Read.{read}
use Rattle.serde_json.specs.Written.{has_float}
use Rattle.signing_core.specs.Decoding.{bytes_of}
use Rattle.signing_core.specs.Signature.{age_at}
use Rattle.session_codec.specs.declared.session_text.DecodeFault.{DecodeFault}
use Rattle.session_codec.specs.declared.session_text.DecodeFault.TheVariants.{Corrupt, Expired}

-- the members of the object whose JSON the bytes are, if it has no float and is nested at most 100 deep
unfoldable pub members_of_json : List ℕ → Option Members
members_of_json json =
    if is_utf8 json then option_and_then (λ d. if not (has_float d) && nat_le (depth d) 100 then as_object d else None) (read json) else None

-- the members that a signed value says; a dot in front marks what is compressed
unfoldable pub members_of_value : List ℕ → Option Members
members_of_value value = if slice_index value 0 == 46 then None else option_and_then members_of_json (bytes_of value)

-- whether the age is above the limit
abbrev pub is_beyond : Option ℕ → ℕ → Bool
is_beyond None age = false
is_beyond (Some most) age = nat_lt most age

abbrev pub map_or_corrupt : Option Members → Result Members DecodeFault
map_or_corrupt (Some ms) = Ok ms
map_or_corrupt None = Err Corrupt

-- what a signed value comes to; its age is judged before it is read
abbrev pub outcome : Option ℕ → ℕ → Option (List ℕ × ℕ) → Result Members DecodeFault
outcome max_age now None = Err Corrupt
outcome max_age now (Some part) = if is_beyond max_age (age_at part.1 now) then Err (Expired (age_at part.1 now)) else map_or_corrupt (members_of_value part.0)
