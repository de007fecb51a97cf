use Rattle.std.proofs.Common.{◌≡◌, ◌==◌, ◌&&◌, false, ℕ, List, [], ◌∷◌, Bor, length, map, sym, ap, ◌∙◌, lit<}
use Rattle.std.proofs.lemmas.Iterator.Consumers.{YieldsList-end}
use Rattle.std.proofs.lemmas.Iterator.Splits.{YieldsList-from_str_split}
use Rattle.std.proofs.lemmas.List.{map-append}
use Rattle.cookie_text.specs.CookieHeader.{pairs_of}
use Rattle.cookie_text.proofs.CookieHeaderLemmas.{cookie_of-made, pairs_in, pairs_in-dropped, pairs_in-kept}
use Rattle.cookie_text.proofs.cookie_header.parse_cookies.Goals as goal

pub loop-piece-preserved-in_ok-push : goal.loop-piece-preserved-in_ok-push
loop-piece-preserved-in_ok-push c =
    let piece : List ℕ = c.in-Some.piece.now in
    let made = cookie_of-made piece c.in_ok-of.field-0 c.in_ok-of-2.field-0 (c.in_ok-of.ensures ∙ c.parts_of.ensures.name) (c.in_ok-of-2.ensures ∙ c.parts_of.ensures.value) in
    let kept : ((length c.in_ok-of.field-0 == 0) && (length c.in_ok-of-2.field-0 == 0)) ≡ false
    = rw (c.in_ok-of.ensures, c.in_ok-of-2.ensures) (sym c.is_blank.ensures ∙ c.if-not-is_blank.true) in
    c.in_ok-push.ensures.items
    ∙ pairs_in-kept (map (λ (p : Bor (List ℕ)). p.now) c.loop-piece.yielded) piece c.loop-piece.cookies.items
    (record { name = c.in_ok-of.field-0; value = c.in_ok-of-2.field-0 }) c.loop-piece.invariant made kept
    ∙ ap pairs_in (sym (map-append (λ (p : Bor (List ℕ)). p.now) c.loop-piece.yielded (c.in-Some.piece ∷ [])))

pub loop-piece-preserved : goal.loop-piece-preserved
loop-piece-preserved c =
    let piece : List ℕ = c.in-Some.piece.now in
    let made = cookie_of-made piece c.parts_of.result.0.now c.parts_of.result.1.now c.parts_of.ensures.name c.parts_of.ensures.value in
    pairs_in-dropped (map (λ (p : Bor (List ℕ)). p.now) c.loop-piece.yielded) piece c.loop-piece.cookies.items
    (record { name = c.parts_of.result.0.now; value = c.parts_of.result.1.now }) c.loop-piece.invariant made (sym c.is_blank.ensures ∙ c.if-not-is_blank.false)
    ∙ ap pairs_in (sym (map-append (λ (p : Bor (List ℕ)). p.now) c.loop-piece.yielded (c.in-Some.piece ∷ [])))

pub returns : goal.returns
unfolding pairs_of
returns c =
    let start = c.into_iter-piece-iterator.ensures.into_iter_gives in
    let pieces = YieldsList-from_str_split {s = c.into_iter-piece-iterator.result} 59 c.args.header.now (lit< tt)
    (rw start c.split-piece-items.ensures.text) (rw start c.split-piece-items.ensures.has_more) (rw start c.split-piece-items.ensures.pattern) in
    let all = YieldsList-end pieces c.loop-piece.yielded _ c.loop-piece.yielded_by _ _ c.in-None.is c.next.ensures.steps in
    c.loop-piece.invariant ∙ ap pairs_in all.0
