use Rattle.std.proofs.Common.{◌≡◌, ℕ, List, None, [], ◌∷◌, Bor, map, sym, ap, ◌∙◌, lit<}
use Rattle.std.specs.Option.{option_copied}
use Rattle.std.proofs.lemmas.Iterator.Consumers.{YieldsList-end}
use Rattle.std.proofs.lemmas.Iterator.Splits.{YieldsList-from_str_split}
use Rattle.std.proofs.lemmas.List.{map-append}
use Rattle.cookie_text.specs.CookieHeader.{named_value, pairs_of, value_of}
use Rattle.cookie_text.proofs.CookieHeaderLemmas.{pairs_in, value_of-other}
use Rattle.cookie_text.proofs.cookie_header.cookie_value.Goals as goal

pub loop-piece-preserved : goal.loop-piece-preserved
loop-piece-preserved c =
    let piece : List ℕ = c.in-Some.piece.now in
    let before : List (List ℕ) = map (λ (p : Bor (List ℕ)). p.now) c.loop-piece.yielded in
    let none : named_value piece c.args.name.now ≡ None = sym c.value_in.ensures ∙ ap option_copied c.in_default.is in
    c.loop-piece.invariant ∙ sym (value_of-other before piece c.args.name.now none)
    ∙ ap (λ (pieces : List (List ℕ)). value_of (pairs_in pieces) c.args.name.now) (sym (map-append (λ (p : Bor (List ℕ)). p.now) c.loop-piece.yielded (c.in-Some.piece ∷ [])))

pub returns : goal.returns
unfolding pairs_of
returns c =
    let start = c.into_iter-piece-iterator.ensures.into_iter_gives in
    let pieces = YieldsList-from_str_split {s = c.into_iter-piece-iterator.result} 59 c.args.header.now (lit< tt)
    (rw start c.split-piece-items.ensures.text) (rw start c.split-piece-items.ensures.has_more) (rw start c.split-piece-items.ensures.pattern) in
    let all = YieldsList-end pieces c.loop-piece.yielded _ c.loop-piece.yielded_by _ _ c.in-None.is c.next.ensures.steps in
    c.loop-piece.invariant ∙ ap (λ (pieces : List (List ℕ)). value_of (pairs_in pieces) c.args.name.now) all.0
