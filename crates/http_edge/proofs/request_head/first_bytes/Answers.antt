use Rattle.std.proofs.Common.{◌≡◌, ◌∙◌, ap, min, ℕ, List, length, take, arith}
use Rattle.std.proofs.lemmas.List.{take_min}
use Rattle.http_edge.specs.Head.{front}
use Rattle.http_edge.proofs.request_head.first_bytes.Goals as goal

pub returns-clause-front : goal.returns-clause-front
unfolding front
returns-clause-front c =
    let bytes : List ℕ = c.args.bytes.now in
    let same : c.min.result ≡ min 16384 (length bytes) = omega (arith, c.min.ensures) in
    ap (λ n. take n bytes) same ∙ take_min 16384 bytes
