-- Hosts and their patterns in lower case.
use Rattle.std.proofs.Common.{◌≡◌, ℕ, ◌-◌, Bool, List, drop, length, nat_eq, take}
use Rattle.std.proofs.Math.Seq.{take-length}
use Rattle.std.proofs.lemmas.Bool.Decides.{same_from_decides}
use Rattle.std.proofs.lemmas.List.{drop-map, length-drop, length-map}
use Rattle.std.proofs.lemmas.Slice.Eq.{bytes_eq-Decides}
use Rattle.std.specs.Bool.{Decides}
use Rattle.std.specs.List.{ends_with}
use Rattle.csrf_tokens.specs.Hosts.{lowered}

-- the slice from an index to the end
slice_to_end : (n : ℕ) (host : List ℕ) → take (length host - n) (drop n host) ≡ drop n host
slice_to_end n host = rw (← length-drop n host) (take-length (drop n host))

-- a host ends with a pattern where its last bytes, as many as the pattern has, are the pattern's
pub ends_with-lowered : (host end : List ℕ) (r : Bool)
    → Decides r (lowered end ≡ lowered (take (length host - (length host - length end)) (drop (length host - length end) host)))
    → r ≡ ends_with nat_eq (lowered host) (lowered end)
ends_with-lowered host end r same =
    let last : Decides r (lowered end ≡ lowered (drop (length host - length end) host)) = rw (slice_to_end (length host - length end) host) at same in
    simp (length-map, drop-map) (same_from_decides r _ last (bytes_eq-Decides _ _))
