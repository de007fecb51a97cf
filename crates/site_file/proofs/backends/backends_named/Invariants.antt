use Rattle.std.proofs.Common.{◌≡◌, take}
use Rattle.site_file.specs.SiteFile.{paths_of}
use Rattle.site_file.proofs.backends.backends_named.Given as goal

-- the paths so far are those of the backends so far
abbrev pub invariant-loop-path : goal.invariant-loop-path
invariant-loop-path l = paths_of l.backends.items ≡ take l.path-index l.paths
