-- Origins as texts.
use Rattle.std.proofs.Common.{◌≡◌, ◌≢◌, ℕ, ◌++◌, Bool, false, List, codes, sym, ap, ◌∙◌}
use Rattle.std.proofs.lemmas.Bool.Decides.{same_from_decides}
use Rattle.std.proofs.lemmas.Slice.Eq.{bytes_eq-Decides}
use Rattle.std.proofs.lemmas.List.{append_cancel_left}
use Rattle.std.specs.Bool.{Decides}
use Rattle.std.specs.Str.{bytes_eq}
use Rattle.csrf_tokens.specs.Verdict.{origin_text}
use Rattle.csrf_tokens.proofs.MarkLemmas.{cases_false}

-- a text that begins with the scheme and `://` is the origin where the rest is its network location
pub is_origin-cut : (origin scheme rest last netloc : List ℕ) (r : Bool) → origin ≡ scheme ++ rest → rest ≡ codes "://" ++ last
    → r ≡ bytes_eq last netloc → r ≡ bytes_eq origin (origin_text scheme netloc)
is_origin-cut origin scheme rest last netloc r whole after_it equal =
    let text : origin ≡ origin_text scheme last = whole ∙ ap (λ (l : List ℕ). scheme ++ l) after_it in
    let decides : Decides (bytes_eq last netloc) (last ≡ netloc) = bytes_eq-Decides last netloc in
    same_from_decides r _ (
      λ yes. text ∙ ap (origin_text scheme) (decides.0 (sym equal ∙ yes)),
      λ same. equal ∙ decides.1 (append_cancel_left (codes "://") last netloc (append_cancel_left scheme _ _ (sym text ∙ same))),
    ) (bytes_eq-Decides _ _)

-- one that doesn't is no such origin
pub is_origin-none : (origin scheme netloc : List ℕ) → origin ≢ origin_text scheme netloc → false ≡ bytes_eq origin (origin_text scheme netloc)
is_origin-none origin scheme netloc differ = sym (cases_false _ (λ yes. differ ((bytes_eq-Decides _ _).0 yes)))
