use Rattle.std.proofs.Common.{◌≡◌, ◌++◌, drop, length}
use Rattle.std.specs.Prelude.{option_map}
use Rattle.site_file.specs.SiteFile.{algos_named}
use Rattle.site_file.proofs.hashers.algos_named.Given as goal

-- the algorithms so far, and those to come
abbrev pub invariant-loop-name : goal.invariant-loop-name
invariant-loop-name l =
    (length l.algos.items ≡ l.name-index)
    × (algos_named l.names ≡ option_map (λ rest. l.algos.items ++ rest) (algos_named (drop l.name-index l.names)))
