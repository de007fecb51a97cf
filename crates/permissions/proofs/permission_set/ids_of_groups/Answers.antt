use Rattle.std.proofs.Common.{sym, ◌∙◌}
use Rattle.std.proofs.lemmas.List.{append-nil}
use Rattle.permissions.specs.PermissionSet.{holder_row}
use Rattle.permissions.proofs.PermissionSetLemmas.{ids_of_groups-more}
use Rattle.permissions.proofs.permission_set.ids_of_groups.Goals.{then-contains+in_ok-extend_from_slice, else-contains}
use Rattle.permissions.proofs.permission_set.ids_of_groups.Goals as goal

pub loop-group-preserved : goal.loop-group-preserved
loop-group-preserved c =
    let user = holder_row c.args.user.now in
    let groups = c.args.groups.now in
    let more = ids_of_groups-more user groups c.loop-group.group-index c.group-item.result in
    elim c.if-contains.branch [
      | then-contains+in_ok-extend_from_slice w ↦
          let joined = more _ c.loop-group-test.true c.group-item.is (rw c.items.ensures at (sym c.contains.ensures.value ∙ w.if-contains.true)) in
          rw (w.ids-is, w.in_ok-extend_from_slice.ensures.items, c.loop-group.invariant, w.items-then-contains.ensures, joined)
      | else-contains w ↦
          let joined = more _ c.loop-group-test.true c.group-item.is (rw c.items.ensures at (sym c.contains.ensures.value ∙ w.if-contains.false)) in
          rw (w.ids-is, c.loop-group.invariant, joined) (sym (append-nil _))
    ]
