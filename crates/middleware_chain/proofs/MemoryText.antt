-- The response where memory is out, written out.
use Rattle.std.proofs.Common.{◌≡◌, refl}
use Rattle.std.specs.Prelude.{codes}
use Rattle.std.specs.Fmt.{digits}
use Rattle.http_edge.specs.ResponseText.{content_lines, content_type_line, context_lines, control_lines, field_line, reason_phrase, response_text, security_lines, status_line}
use Rattle.middleware_chain.specs.Page.{memory_text}

pub memory_text-is : memory_text ≡ codes "HTTP/1.1 500 Internal Server Error\r\nContent-Type: text/plain; charset=utf-8\r\nContent-Length: 13\r\nX-Content-Type-Options: nosniff\r\nReferrer-Policy: same-origin\r\nCross-Origin-Opener-Policy: same-origin\r\nX-Frame-Options: DENY\r\nConnection: close\r\n\r\nerror=memory\n"
unfolding response_text content_lines content_type_line context_lines control_lines field_line reason_phrase security_lines status_line digits
memory_text-is = refl
