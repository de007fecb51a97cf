-- The pages that need no route: bodies and codes are this project's own.
use Rattle.std.specs.Prelude.{ℕ, Bool, true, false, List, [], ◌++◌, Option, None, Some, codes}
use Rattle.http_edge.specs.ResponseText.{response_text}
use Rattle.http_edge.specs.declared.request.EdgeFault.{EdgeFault}
use Rattle.http_edge.specs.declared.request.EdgeFault.TheVariants.{BadHead, HeadTooLong, TransferCoding, ContentCoding, NoLength, BodyTooLong, CutShort, ReadFault, Memory}
use Rattle.http_edge.specs.declared.request.Method.{Method}
use Rattle.http_edge.specs.declared.request.Method.TheVariants.{Get, Head, Post, Other}
use Rattle.http_edge.specs.declared.request.Request.{Request}
use Rattle.http_edge.specs.declared.response.Response.{Response}
use Rattle.middleware_chain.specs.declared.page.Delivery.{Delivery}

-- a line of a page ends with a line feed
abbrev pub line : List ℕ → List ℕ
line text = text ++ codes "\n"

-- the response to HEAD has no body
abbrev pub is_head : Method → Bool
is_head Get = false
is_head Head = true
is_head Post = false
is_head Other = false

-- what a response takes over from its request
abbrev pub delivery_of : Request → Delivery
delivery_of r = record { keep = r.keep; head_only = is_head r.method }

-- a page without a redirect, a list of methods and cookies, which doesn't depend on the request's cookies
abbrev pub plain_page : ℕ → List ℕ → Delivery → Response
plain_page status body delivery = record {
  status = status;
  body = body;
  location = None;
  allow = None;
  vary = false;
  cookies = [];
  keep = delivery.keep;
  head_only = delivery.head_only;
}

-- the last page of a connection, which has its body whatever was asked
abbrev pub last_page : ℕ → List ℕ → Response
last_page status body = plain_page status body (record { keep = false; head_only = false })

-- the page of malformed input; none where memory is out, and after a failed read
abbrev pub fault_page : EdgeFault → Option Response
fault_page BadHead = Some (last_page 400 (codes "error=bad-head\n"))
fault_page HeadTooLong = Some (last_page 431 (codes "error=head-too-long\n"))
fault_page TransferCoding = Some (last_page 501 (codes "error=transfer-coding\n"))
fault_page ContentCoding = Some (last_page 415 (codes "error=content-coding\n"))
fault_page NoLength = Some (last_page 411 (codes "error=no-length\n"))
fault_page BodyTooLong = Some (last_page 400 (codes "error=body-too-long\n"))
fault_page CutShort = Some (last_page 400 (codes "error=cut-short\n"))
fault_page ReadFault = None
fault_page Memory = None

-- the page of a request whose step wasn't done; no cookie is set
abbrev pub undone_page : List ℕ → Request → Response
undone_page body r = record (plain_page 503 body (delivery_of r)) { vary = true }

-- the store failed in a step
abbrev pub store_page : Request → Response
store_page r = undone_page (codes "error=store\n") r

-- the audit list was full at a step
abbrev pub full_page : Request → Response
full_page r = undone_page (codes "error=full\n") r

-- what is written where memory is out, whatever the request was
abbrev pub memory_text : List ℕ
memory_text = response_text (last_page 500 (codes "error=memory\n"))
