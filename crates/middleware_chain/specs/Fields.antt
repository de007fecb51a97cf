-- The fields of a request: those of its form, and those of its query.
use Rattle.std.specs.Prelude.{ℕ, bytes_eq, if◌then◌else◌, List, [], ◌∷◌}
use Rattle.http_edge.specs.FormFields.{fields_of}
use Rattle.http_edge.specs.declared.form_field.Field.{Field}
use Rattle.http_edge.specs.declared.request.Request.{Request}

-- the fields of the body, where it is a form
abbrev pub body_fields : Request → List Field
body_fields r = if r.form then fields_of r.body else []

-- the last value of a name, where `found` was found before
abbrev pub last_value_after : List ℕ → List Field → List ℕ → List ℕ
last_value_after name [] found = found
last_value_after name (field ∷ fields) found = last_value_after name fields (if bytes_eq field.name name then field.value else found)

-- the last value of a name, as Django's `QueryDict` gives it; empty where there is none
unfoldable pub last_value : List ℕ → List Field → List ℕ
last_value name fields = last_value_after name fields []
