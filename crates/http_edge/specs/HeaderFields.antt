-- What a request takes of its head. Names of fields are compared without regard to ASCII case (RFC 9110, section 5.1).
use Rattle.std.specs.Prelude.{ℕ, Bool, true, false, ◌&&◌, not, ◌==◌, if◌then◌else◌, List, [], ◌∷◌, ◌++◌, drop, map, Option, Some, None, is_some, position, codes}
use Rattle.std.specs.Option.{option_map}
use Rattle.std.specs.List.{flat_map, before_first, after_first}
use Rattle.std.specs.Char.{to_ascii_lowercase}
use Rattle.std.specs.Str.{is_utf8, bytes_eq}
use Rattle.httparse.specs.Grammar.{RequestHead}
use Rattle.httparse.specs.Spans.{name_and_value}
use Rattle.http_edge.specs.declared.request.Method.{Method}
use Rattle.http_edge.specs.declared.request.Method.TheVariants.{Get, Head, Post, Other}
use Rattle.http_edge.specs.declared.request.Request.{Request}

-- the same but for the case of ASCII letters
abbrev pub same_but_case : List ℕ → List ℕ → Bool
same_but_case [] [] = true
same_but_case [] (y ∷ ys) = false
same_but_case (x ∷ xs) [] = false
same_but_case (x ∷ xs) (y ∷ ys) = (to_ascii_lowercase x == to_ascii_lowercase y) && same_but_case xs ys

-- the names and values of a head's fields
abbrev pub fields_of : RequestHead → List (List ℕ × List ℕ)
fields_of h = map name_and_value h.fields

-- the values of the fields with this name, in their order
abbrev pub values_of : List ℕ → List (List ℕ × List ℕ) → List (List ℕ)
values_of name [] = []
values_of name (f ∷ fields) = if same_but_case f.0 name then f.1 ∷ values_of name fields else values_of name fields

-- the bytes, where they are UTF-8
abbrev pub as_text : List ℕ → Option (List ℕ)
as_text bytes = if is_utf8 bytes then Some bytes else None

-- the first value, where there is one
abbrev pub first_value : List (List ℕ) → Option (List ℕ)
first_value [] = None
first_value (value ∷ values) = Some value

-- the value, where there is one and it is UTF-8
abbrev pub text_in : Option (List ℕ) → Option (List ℕ)
text_in None = None
text_in (Some value) = as_text value

-- the first value, where it is UTF-8: a later one doesn't stand in for it
abbrev pub first_text : List (List ℕ) → Option (List ℕ)
first_text values = text_in (first_value values)

-- a value after others
abbrev pub behind_others : List ℕ → List ℕ
behind_others value = codes "; " ++ value

-- all values with "; " between them, where that is UTF-8
abbrev pub cookie_text : List (List ℕ) → Option (List ℕ)
cookie_text values = text_in (option_map (λ first. first ++ flat_map behind_others (drop 1 values)) (first_value values))

-- the type up to a semicolon is that of a form, in any ASCII case
abbrev pub is_form : Option (List ℕ) → Bool
is_form None = false
is_form (Some type) = same_but_case (before_first (λ b. b == 59) type) (codes "application/x-www-form-urlencoded")

-- the value is `close`, in any ASCII case
abbrev pub closes : Option (List ℕ) → Bool
closes None = false
closes (Some value) = same_but_case value (codes "close")

-- the method by its name, whose case counts (RFC 9110, section 9.1)
abbrev pub method_of : List ℕ → Method
method_of name =
    if bytes_eq name (codes "GET") then Get
    else if bytes_eq name (codes "HEAD") then Head
    else if bytes_eq name (codes "POST") then Post
    else Other

-- a question mark ends the path (RFC 9112, section 3.2.1)
abbrev pub is_question_mark : ℕ → Bool
is_question_mark b = b == 63

-- the request of a head whose method, target, version and fields are these, and of a body
unfoldable pub request_by : List ℕ → List ℕ → ℕ → List (List ℕ × List ℕ) → List ℕ → Request
request_by method target minor fields body = record {
  method = method_of method;
  path = before_first is_question_mark target;
  query = after_first is_question_mark target;
  has_query = is_some (position is_question_mark target);
  host = first_text (values_of (codes "host") fields);
  cookie = cookie_text (values_of (codes "cookie") fields);
  origin = first_text (values_of (codes "origin") fields);
  referer = first_text (values_of (codes "referer") fields);
  csrf = first_text (values_of (codes "x-csrftoken") fields);
  proto = first_text (values_of (codes "x-forwarded-proto") fields);
  form = is_form (first_text (values_of (codes "content-type") fields));
  body = body;
  keep = (minor == 1) && not (closes (first_value (values_of (codes "connection") fields)));
}

-- the request of a head and a body
abbrev pub request_of : RequestHead → List ℕ → Request
request_of h body = request_by h.method h.target h.minor (fields_of h) body
