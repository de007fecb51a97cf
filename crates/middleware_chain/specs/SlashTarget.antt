-- Where a path without its last slash is redirected to, as by Django's `APPEND_SLASH`.
use Rattle.std.specs.Prelude.{ℕ, Bool, if◌then◌else◌, List, [], ◌++◌, codes}
use Rattle.http_edge.specs.declared.request.Request.{Request}

-- the query with its question mark, where the target has one
abbrev pub query_part : Bool → List ℕ → List ℕ
query_part has_query query = if has_query then codes "?" ++ query else []

-- the path with its last slash, and the query where the target has one
abbrev pub slash_target : Request → List ℕ
slash_target r = r.path ++ (codes "/" ++ query_part r.has_query r.query)
