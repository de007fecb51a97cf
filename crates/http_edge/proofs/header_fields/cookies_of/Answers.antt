use Rattle.std.proofs.Common.{◌≡◌, ◌++◌, ℕ, List, Some, map, drop, flat_map, sym, ap, subst, ◌∙◌, codes, rules}
use Rattle.std.specs.Str.{IsUtf8}
use Rattle.std.proofs.lemmas.Str.{IsUtf8-string_bytes}
use Rattle.httparse.specs.Spans.{header_bytes}
use Rattle.http_edge.specs.HeaderFields.{values_of, first_value, behind_others, cookie_text, as_text}
use Rattle.http_edge.proofs.Texts.{as_text-text, as_text-none, cookie_text-is}
use Rattle.http_edge.proofs.header_fields.cookies_of.Goals as goal

pub returns-in-Ok : goal.returns-in-Ok
returns-in-Ok c =
    let values : List (List ℕ) = values_of (codes "cookie") (map (header_bytes c.args.head.now) c.args.fields.now) in
    let first : Some c.in-Some.first.now ≡ first_value values = search rules in
    let all : c.push_others.new.values.items ≡ c.in-Some.first.now ++ flat_map behind_others (drop 1 values) = search rules in
    let text : c.from_string.result ≡ c.push_others.new.values.items = search rules in
    let cookies : cookie_text values ≡ as_text c.push_others.new.values.items = cookie_text-is values _ _ first all in
    let utf8 : IsUtf8 c.push_others.new.values.items = subst IsUtf8 (sym c.from_string.ensures ∙ text) (IsUtf8-string_bytes c.in-Ok.text) in
    ap (λ text. Some text) text ∙ sym (cookies ∙ as_text-text c.push_others.new.values.items utf8)

pub returns : goal.returns
returns c =
    let values : List (List ℕ) = values_of (codes "cookie") (map (header_bytes c.args.head.now) c.args.fields.now) in
    let first : Some c.in-Some.first.now ≡ first_value values = search rules in
    let all : c.push_others.new.values.items ≡ c.in-Some.first.now ++ flat_map behind_others (drop 1 values) = search rules in
    sym (cookie_text-is values _ _ first all ∙ as_text-none c.push_others.new.values.items (λ is. let never = c.in-Err.ensures.succeeds is in cc))
