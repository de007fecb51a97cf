use Rattle.std.proofs.Common.{◌≡◌, map}
use Rattle.serde_json.specs.View.{members_view}
use Rattle.site_file.specs.Fields.{has_only_names}
use Rattle.site_file.proofs.fields.has_only_names.Given as goal

-- the names to come decide
abbrev pub invariant-loop-name : goal.invariant-loop-name
invariant-loop-name l =
    (goal.iterator-loop-name).can_next l.name-iterator
    × (goal.iterator-loop-name).is_finite l.name-iterator
    × has_only_names (map (λ name. name.now) l.names) (members_view l.members.entries) ≡ has_only_names (map (λ name. name.now) l.names) (members_view l.name-iterator)
