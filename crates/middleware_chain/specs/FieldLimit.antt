-- The greatest number of fields, as Django's `DATA_UPLOAD_MAX_NUMBER_FIELDS`.
use Rattle.std.specs.Prelude.{Bool, ◌&&◌, ◌||◌, nat_lt}
use Rattle.http_edge.specs.FormFields.{field_count}
use Rattle.http_edge.specs.declared.request.Request.{Request}

-- more than 1,000 pairs in the query, or in the body of a form
abbrev pub has_too_many_fields : Request → Bool
has_too_many_fields r = nat_lt 1000 (field_count r.query) || (r.form && nat_lt 1000 (field_count r.body))
