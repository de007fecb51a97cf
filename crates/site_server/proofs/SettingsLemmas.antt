-- What a settings file says, from what was read of it.
use Rattle.std.proofs.Common.{◌≡◌, ℕ, List, take, Option, Some, None, subst}
use Rattle.std.specs.Prelude.{IfSome}
use Rattle.site_file.specs.SiteFile.{IsSiteOf, Site}

-- what the bytes that were read say, the file says
pub site_of-left : (told : Option (List ℕ)) (most : ℕ) (bytes : List ℕ) (site : Site)
    → IfSome told (λ left. bytes ≡ take most left) → IsSiteOf bytes site → IfSome told (λ left. IsSiteOf (take most left) site)
site_of-left None most bytes site is said = tt
site_of-left (Some left) most bytes site is said = subst (λ bs. IsSiteOf bs site) is said
