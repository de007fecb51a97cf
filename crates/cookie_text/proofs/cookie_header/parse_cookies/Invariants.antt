use Rattle.std.proofs.Common.{◌≡◌, map}
use Rattle.std.specs.List.{filter}
use Rattle.cookie_text.specs.CookieHeader.{cookie_of, is_kept}
use Rattle.cookie_text.proofs.cookie_header.parse_cookies.Given as goal

abbrev pub invariant-loop-piece : goal.invariant-loop-piece
invariant-loop-piece l = l.cookies.items ≡ filter is_kept (map cookie_of (map (λ piece. piece.now) l.yielded))
