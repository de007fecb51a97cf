use Rattle.std.proofs.Common.{ℕ, List, codes, ◌++◌, sym, ap, ◌∙◌}
use Rattle.std.proofs.lemmas.Bool.Decides.{Decides-eqb}
use Rattle.std.proofs.lemmas.List.{append_cancel_left}
use Rattle.std.proofs.lemmas.Slice.Eq.{strip_prefix_is}
use Rattle.std.specs.Str.{bytes_eq}
use Rattle.csrf_tokens.proofs.VerdictLemmas.{is_origin-cut, is_origin-none}
use Rattle.csrf_tokens.proofs.verdict.is_origin.Goals as goal

pub returns-in-Some-strip_prefix : goal.returns-in-Some-strip_prefix
returns-in-Some-strip_prefix c =
    let first = rw c.in-Some.is at (strip_prefix_is Decides-eqb c.as_bytes.result.now c.as_bytes-2.result.now c.strip_prefix.result c.strip_prefix.ensures.cases) in
    let second = rw c.in-Some-strip_prefix.is at (strip_prefix_is Decides-eqb c.in-Some.rest.now (codes "://") c.strip_prefix-in-Some.result c.strip_prefix-in-Some.ensures.cases) in
    let whole = sym c.as_bytes.ensures.value ∙ first ∙ ap (λ (l : List ℕ). l ++ c.in-Some.rest.now) c.as_bytes-2.ensures.value in
    is_origin-cut c.args.origin.now c.args.scheme.now c.in-Some.rest.now c.in-Some-strip_prefix.rest.now c.args.netloc.now _ whole second
    (c.eq.ensures ∙ ap (bytes_eq c.in-Some-strip_prefix.rest.now) c.as_bytes-in-Some-strip_prefix.ensures.value)

pub returns-in-None-strip_prefix : goal.returns-in-None-strip_prefix
returns-in-None-strip_prefix c =
    let first = rw c.in-Some.is at (strip_prefix_is Decides-eqb c.as_bytes.result.now c.as_bytes-2.result.now c.strip_prefix.result c.strip_prefix.ensures.cases) in
    let second = rw c.in-None-strip_prefix.is at (strip_prefix_is Decides-eqb c.in-Some.rest.now (codes "://") c.strip_prefix-in-Some.result c.strip_prefix-in-Some.ensures.cases) in
    let whole = sym c.as_bytes.ensures.value ∙ first ∙ ap (λ (l : List ℕ). l ++ c.in-Some.rest.now) c.as_bytes-2.ensures.value in
    is_origin-none _ _ _ (λ same. second c.args.netloc.now (append_cancel_left c.args.scheme.now _ _ (sym whole ∙ same)))

pub returns-in-None : goal.returns-in-None
returns-in-None c =
    let first = rw c.in-None.is at (strip_prefix_is Decides-eqb c.as_bytes.result.now c.as_bytes-2.result.now c.strip_prefix.result c.strip_prefix.ensures.cases) in
    is_origin-none _ _ _ (λ same. first (codes "://" ++ c.args.netloc.now)
    (c.as_bytes.ensures.value ∙ same ∙ ap (λ (l : List ℕ). l ++ (codes "://" ++ c.args.netloc.now)) (sym c.as_bytes-2.ensures.value)))
