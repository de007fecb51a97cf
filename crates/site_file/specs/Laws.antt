-- What follows from the definitions.
use Rattle.std.specs.Prelude.{◌≡◌, ℕ, List}
use Rattle.site_file.specs.SiteFile.{IsSiteOf, Site}

-- a file says one thing: one site, or one first wrong field
abbrev pub FileSaysOneSite : Type 0
FileSaysOneSite = (bytes : List ℕ) (site other : Site) → IsSiteOf bytes site → IsSiteOf bytes other → site ≡ other
