-- The values of a request's fields are text.
use Rattle.std.proofs.Common.{ℕ, bytes_eq, List, [], ◌∷◌, map}
use Rattle.std.proofs.lemmas.Str.{IsUtf8-nil}
use Rattle.std.specs.Str.{IsUtf8}
use Rattle.http_edge.specs.FormFields.{field_of, fields_of}
use Rattle.http_edge.specs.declared.form_field.Field.{Field}
use Rattle.http_edge.specs.declared.request.Request.{Request}
use Rattle.middleware_chain.specs.Fields.{body_fields, last_value, last_value_after}
use Rattle.account_views.proofs.LossyLemmas.{IsUtf8-utf8_lossy}
use Rattle.account_views.proofs.WalkLemmas.{either}

-- the value of each field is text
abbrev pub AreTexts : List Field → Type 0
AreTexts [] = Unit {0}
AreTexts (field ∷ fields) = IsUtf8 field.value × AreTexts fields

decoded_texts : (pairs : List (List ℕ × List ℕ)) → AreTexts (map field_of pairs)
decoded_texts [] = tt
decoded_texts (pair ∷ pairs) = (IsUtf8-utf8_lossy _, decoded_texts pairs)

pub fields_of-texts : (bytes : List ℕ) → AreTexts (fields_of bytes)
fields_of-texts bytes = decoded_texts _

pub body_fields-texts : (r : Request) → AreTexts (body_fields r)
body_fields-texts r = either AreTexts r.form (fields_of r.body) [] (fields_of-texts r.body) tt

last_text : (name : List ℕ) (fields : List Field) (found : List ℕ) → AreTexts fields → IsUtf8 found → IsUtf8 (last_value_after name fields found)
last_text name [] found texts text = text
last_text name (field ∷ fields) found texts text =
    last_text name fields _ texts.1 (either IsUtf8 (bytes_eq field.name name) field.value found texts.0 text)

-- so is the value of a name
pub last_value-text : (name : List ℕ) (fields : List Field) → AreTexts fields → IsUtf8 (last_value name fields)
unfolding last_value
last_value-text name fields texts = last_text name fields [] texts IsUtf8-nil
