-- The fields of a form or of a query, after the URL Standard, section 5.1.
use Rattle.std.specs.Prelude.{ℕ, List, length, map}
use Rattle.std.specs.Str.Lossy.{utf8_lossy}
use Rattle.form_urlencoded.specs.Form.{raw_pairs, decode}
use Rattle.http_edge.specs.declared.form_field.Field.{Field}

-- a name or a value, decoded: what isn't UTF-8 becomes U+FFFD
abbrev pub decoded : List ℕ → List ℕ
decoded text = utf8_lossy (decode text)

-- a pair, decoded
abbrev pub field_of : List ℕ × List ℕ → Field
field_of pair = record { name = decoded pair.0; value = decoded pair.1 }

-- the fields in order, one for each pair
abbrev pub fields_of : List ℕ → List Field
fields_of bytes = map field_of (raw_pairs bytes)

-- how many fields there are
abbrev pub field_count : List ℕ → ℕ
field_count bytes = length (raw_pairs bytes)
