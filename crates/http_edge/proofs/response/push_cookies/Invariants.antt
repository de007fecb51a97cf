use Rattle.std.proofs.Common.{◌≡◌, ◌++◌, drop}
use Rattle.std.specs.Prelude.{string_bytes}
use Rattle.http_edge.specs.ResponseText.{cookie_lines}
use Rattle.http_edge.proofs.response.push_cookies.Given as goal

-- what is written, and the lines of the cookies to come
abbrev pub invariant-loop-cookie : goal.invariant-loop-cookie
invariant-loop-cookie l =
    string_bytes l.text ++ cookie_lines (drop l.cookie-index l.cookies) ≡ string_bytes l.fn.text ++ cookie_lines l.cookies
