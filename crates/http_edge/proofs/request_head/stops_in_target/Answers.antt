use Rattle.std.proofs.Common.{◌≡◌, ◌∙◌, ap, sym, true, false, List, ℕ}
use Rattle.http_edge.specs.RequestLine.{after_line_ends, after_token, begins_token, is_space_and_target}
use Rattle.http_edge.proofs.RequestLine.{stops, stopped}
use Rattle.http_edge.proofs.request_head.stops_in_target.Goals as goal

pub returns-then-begins_token : goal.returns-then-begins_token
returns-then-begins_token c =
    let bytes : List ℕ = c.args.bytes.now in
    let begun : begins_token (after_line_ends bytes) ≡ true =
    ap begins_token (sym c.skip_line_ends-line.ensures) ∙ sym c.begins_token.ensures ∙ c.if-begins_token.true in
    let rest : c.is_space_and_target.result ≡ is_space_and_target (after_token (after_line_ends bytes)) =
    c.is_space_and_target.ensures ∙ ap is_space_and_target (c.skip_token.ensures ∙ ap after_token c.skip_line_ends-line.ensures) in
    (λ is. stops bytes begun (sym rest ∙ is), λ does. rest ∙ (stopped bytes does).1)

pub returns-else-begins_token : goal.returns-else-begins_token
returns-else-begins_token c =
    let bytes : List ℕ = c.args.bytes.now in
    let not_begun : c.begins_token.result ≡ begins_token (after_line_ends bytes) =
    c.begins_token.ensures ∙ ap begins_token c.skip_line_ends-line.ensures in
    (λ is. absurd (let no : true ≡ false = sym is ∙ c.if-begins_token.false in cc), λ does. not_begun ∙ (stopped bytes does).0)
