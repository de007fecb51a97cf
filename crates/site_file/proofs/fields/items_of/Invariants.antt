use Rattle.std.proofs.Common.{◌≡◌, ◌++◌, drop}
use Rattle.std.specs.Prelude.{option_map}
use Rattle.serde_json.specs.View.{items_view}
use Rattle.site_file.specs.Fields.{items_in}
use Rattle.site_file.proofs.fields.items_of.Given as goal

-- the values so far, and those to come
abbrev pub invariant-loop-item : goal.invariant-loop-item
invariant-loop-item g l =
    items_in g.T.FromValue.value_in (items_view l.items) ≡ option_map (λ rest. l.list.items ++ rest) (items_in g.T.FromValue.value_in (items_view (drop l.item-index l.items)))
