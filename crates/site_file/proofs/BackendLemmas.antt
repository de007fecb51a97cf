-- Backends and their paths.
use Rattle.std.proofs.Common.{◌≡◌, ◌≢◌, ◌<◌, ℕ, List, [], ◌∷◌, length, get_or, refl, ap, sym, ◌∙◌, arith}
use Rattle.std.proofs.lemmas.List.{get_or-map, length-map}
use Rattle.ledger_rows.specs.Backends.{path_of}
use Rattle.ledger_rows.specs.declared.rows.Backend.{Backend}
use Rattle.ledger_rows.specs.declared.rows.Backend.TheVariants.{Model, AllowAll}
use Rattle.site_file.specs.SiteFile.{paths_of}

-- two backends of one path are the same
path_tells_backend : (first second : Backend) → path_of first ≡ path_of second → first ≡ second
unfolding path_of
path_tells_backend Model Model is = refl
path_tells_backend Model AllowAll is = let lengths : 41 ≡ 54 = ap length is in absurd (omega (arith, lengths))
path_tells_backend AllowAll Model is = let lengths : 54 ≡ 41 = ap length is in absurd (omega (arith, lengths))
path_tells_backend AllowAll AllowAll is = refl

-- two lists of backends with the same paths are the same
pub paths_tell_backends : (xs ys : List Backend) → paths_of xs ≡ paths_of ys → xs ≡ ys
paths_tell_backends [] [] is = refl
paths_tell_backends [] (y ∷ ys) is = absurd (cc is)
paths_tell_backends (x ∷ xs) [] is = absurd (cc is)
paths_tell_backends (x ∷ xs) (y ∷ ys) is =
    let heads : path_of x ≡ path_of y = cc is in
    let tails : paths_of xs ≡ paths_of ys = cc is in
    cc (path_tells_backend x y heads, paths_tell_backends xs ys tails)

-- a list is that of no backends' paths where one of its texts is no backend's path
pub paths_of-unknown : (paths : List (List ℕ)) (at : ℕ) (d : List ℕ) → at < length paths → ((backend : Backend) → path_of backend ≢ get_or paths at d)
    → (backends : List Backend) → paths_of backends ≢ paths
paths_of-unknown paths at d lt unknown backends is =
    let within : at < length backends = omega (arith, ap length is, length-map backends path_of) in
    unknown (get_or backends at Model) (sym (get_or-map path_of backends at Model d within) ∙ ap (λ texts. get_or texts at d) is)
