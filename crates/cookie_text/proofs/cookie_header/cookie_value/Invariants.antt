use Rattle.std.proofs.Common.{◌≡◌, map}
use Rattle.std.specs.List.{filter}
use Rattle.std.specs.Option.{option_copied}
use Rattle.cookie_text.specs.CookieHeader.{cookie_of, is_kept, value_of}
use Rattle.cookie_text.proofs.cookie_header.cookie_value.Given as goal

abbrev pub invariant-loop-piece : goal.invariant-loop-piece
invariant-loop-piece l = option_copied l.found ≡ value_of (filter is_kept (map cookie_of (map (λ piece. piece.now) l.yielded))) l.name
