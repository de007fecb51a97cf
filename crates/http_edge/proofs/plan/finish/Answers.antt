use Rattle.std.proofs.Common.{◌≡◌, ◌∙◌, ◌≤◌, ◌+◌, ◌-◌, ℕ, List, ap, sym, take, drop, arith}
use Rattle.std.proofs.lemmas.List.{drop-take}
use Rattle.http_edge.proofs.plan.finish.Goals as goal

-- the bytes from one place to another, cut in either order
cut : (bytes : List ℕ) (len total : ℕ) → len ≤ total → take (total - len) (drop len bytes) ≡ drop len (take total bytes)
cut bytes len total le =
    let whole : len + (total - len) ≡ total = omega arith in
    sym (drop-take len (total - len) bytes) ∙ ap (λ n. drop len (take n bytes)) whole

pub returns-clause-request : goal.returns-clause-request
returns-clause-request c =
    let len : ℕ = c.args.plan.len in
    let total : ℕ = c.args.plan.total in
    let copied : c.in_ok-body.body.items ≡ drop len (take total c.args.bytes.now.items) =
    c.in_ok-body.ensures.items_if_clones_equal (λ x y same. same)
    ∙ ap (λ (bytes : List ℕ). take (total - len) (drop len bytes)) c.deref.ensures.value
    ∙ cut c.args.bytes.now.items len total c.requires.ordered in
    ap (λ (body : List ℕ). record c.args.plan.request { body = body }) (c.from_vec.ensures ∙ copied)
