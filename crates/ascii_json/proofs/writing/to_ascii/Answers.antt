use Rattle.std.proofs.Common.{◌≡◌, ℕ, List, [], ◌∷◌, map, refl, sym, ap, ◌∙◌}
use Rattle.std.proofs.lemmas.Iterator.{YieldsList-from_chars}
use Rattle.std.proofs.lemmas.Iterator.Consumers.{YieldsList-end}
use Rattle.std.specs.Prelude.{flat_map}
use Rattle.ascii_json.specs.Escaping.{escaped_beyond_ascii, escaped_text}
use Rattle.ascii_json.proofs.writing.to_ascii.Goals as goal

unchanged : (xs : List ℕ) → map (λ x. x) xs ≡ xs
unchanged [] = refl
unchanged (x ∷ xs) = ap (λ l. x ∷ l) (unchanged xs)

pub returns : goal.returns
unfolding escaped_text
returns c =
    let all = YieldsList-end (YieldsList-from_chars c.args.text.now c.utf8.text cc) c.loop-c.yielded _ c.loop-c.yielded_by _ _ c.in-None.is c.next.ensures.steps in
    c.loop-c.invariant ∙ ap (flat_map escaped_beyond_ascii) (sym (unchanged c.loop-c.yielded) ∙ all.0)
