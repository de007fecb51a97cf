-- The text of a response: RFC 9112, sections 4 and 5. The fields and their order are this project's own.
use Rattle.std.specs.Prelude.{◌==◌, ◌<◌, ℕ, Bool, if◌then◌else◌, List, [], ◌∷◌, ◌++◌, length, Option, None, Some, codes, decimal}
use Rattle.http_edge.specs.declared.response.Response.{Response}

-- CR LF
abbrev pub line_end : List ℕ
line_end = 13 ∷ 10 ∷ []

-- a field line: name, colon, space, value
unfoldable pub field_line : List ℕ → List ℕ → List ℕ
field_line name value = name ++ (codes ": " ++ (value ++ line_end))

-- RFC 9110, section 15; the empty phrase where this project sends no such status
unfoldable pub reason_phrase : ℕ → List ℕ
reason_phrase status =
    if status == 200 then codes "OK"
    else (if status == 301 then codes "Moved Permanently"
    else (if status == 302 then codes "Found"
    else (if status == 400 then codes "Bad Request"
    else (if status == 403 then codes "Forbidden"
    else (if status == 404 then codes "Not Found"
    else (if status == 405 then codes "Method Not Allowed"
    else (if status == 411 then codes "Length Required"
    else (if status == 415 then codes "Unsupported Media Type"
    else (if status == 431 then codes "Request Header Fields Too Large"
    else (if status == 500 then codes "Internal Server Error"
    else (if status == 501 then codes "Not Implemented"
    else (if status == 503 then codes "Service Unavailable"
    else []))))))))))))

-- one of the statuses that this project sends
abbrev pub IsStatus : ℕ → Type 0
IsStatus status = 0 < length (reason_phrase status)

-- RFC 9112, section 4
unfoldable pub status_line : ℕ → List ℕ
status_line status = codes "HTTP/1.1 " ++ (decimal status ++ (codes " " ++ (reason_phrase status ++ line_end)))

-- a field that is there where there is a value
abbrev pub optional_line : List ℕ → Option (List ℕ) → List ℕ
optional_line name None = []
optional_line name (Some value) = field_line name value

-- each Set-Cookie text on a line of its own, in order (RFC 6265, section 3)
abbrev pub cookie_lines : List (List ℕ) → List ℕ
cookie_lines [] = []
cookie_lines (cookie ∷ cookies) = field_line (codes "Set-Cookie") cookie ++ cookie_lines cookies

-- what varies with the request is said by this field (RFC 9110, section 12.5.5)
abbrev pub vary_line : Bool → List ℕ
vary_line vary = if vary then field_line (codes "Vary") (codes "Cookie") else []

-- as Django's SecurityMiddleware and XFrameOptionsMiddleware set them
unfoldable pub security_lines : List ℕ
security_lines =
    field_line (codes "X-Content-Type-Options") (codes "nosniff")
    ++ (field_line (codes "Referrer-Policy") (codes "same-origin")
    ++ (field_line (codes "Cross-Origin-Opener-Policy") (codes "same-origin")
    ++ field_line (codes "X-Frame-Options") (codes "DENY")))

-- RFC 9112, section 9.3
abbrev pub connection_line : Bool → List ℕ
connection_line keep = field_line (codes "Connection") (if keep then codes "keep-alive" else codes "close")

-- the body is left out in the answer to HEAD, and its length stays
abbrev pub body_of : Response → List ℕ
body_of response = if response.head_only then [] else response.body

-- every page of this project is a plain text
unfoldable pub content_type_line : List ℕ
content_type_line = field_line (codes "Content-Type") (codes "text/plain; charset=utf-8")

-- the status line, and what the content is
unfoldable pub content_lines : Response → List ℕ
content_lines response =
    status_line response.status
    ++ (content_type_line
    ++ field_line (codes "Content-Length") (decimal (length response.body)))

-- RFC 9110, section 10.2: where else to go, and by which methods
unfoldable pub context_lines : Response → List ℕ
context_lines response =
    optional_line (codes "Location") response.location ++ optional_line (codes "Allow") response.allow

-- cookies, and the fields for the browser and for the connection
unfoldable pub control_lines : Response → List ℕ
control_lines response =
    vary_line response.vary
    ++ (cookie_lines response.cookies
    ++ (security_lines
    ++ connection_line response.keep))

-- the lines in this order, an empty line, and the body
unfoldable pub response_text : Response → List ℕ
response_text response =
    content_lines response
    ++ (context_lines response
    ++ (control_lines response
    ++ (line_end
    ++ body_of response)))
