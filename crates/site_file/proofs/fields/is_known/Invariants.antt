use Rattle.std.proofs.Common.{◌≡◌, drop, map}
use Rattle.std.specs.Prelude.{bytes_eq}
use Rattle.std.specs.List.{list_any}
use Rattle.site_file.proofs.fields.is_known.Given as goal

-- the names to come decide
abbrev pub invariant-loop-known : goal.invariant-loop-known
invariant-loop-known l =
    list_any (λ known. bytes_eq known l.name) (map (λ known. known.now) l.names) ≡ list_any (λ known. bytes_eq known l.name) (map (λ known. known.now) (drop l.known-index l.names))
