use Rattle.std.proofs.Common.{◌∙◌, sym}
use Rattle.permissions.specs.PermissionSet.{holder_row, is_held}
use Rattle.permissions.proofs.PermissionSetLemmas.{names_of-failed, names_of-nil, names_of-passed}
use Rattle.permissions.proofs.permission_set.names_among.Goals.{then-is_held+in_ok-name_of+in_ok-insert, else-is_held}
use Rattle.permissions.proofs.permission_set.names_among.Goals as goal

pub loop-row-init : goal.loop-row-init
loop-row-init c = c.new-names.ensures.empty ∙ sym (names_of-nil (is_held (holder_row c.args.user.now) c.args.ids.now))

pub loop-row-preserved : goal.loop-row-preserved
loop-row-preserved c =
    let rows = c.args.perms.now in
    let row = c.row-item.result in
    elim c.if-is_held.branch [
      | then-is_held+in_ok-name_of+in_ok-insert w ↦
          let passed = names_of-passed (is_held (holder_row c.args.user.now) c.args.ids.now) rows c.loop-row.row-index row
          c.loop-row-test.true c.row-item.is (sym c.is_held.ensures ∙ w.if-is_held.true) in
          rw (w.names-is, w.in_ok-insert.ensures.keys, w.in_ok-name_of.ensures, c.loop-row.invariant, passed)
      | else-is_held w ↦
          let failed = names_of-failed (is_held (holder_row c.args.user.now) c.args.ids.now) rows c.loop-row.row-index row
          c.loop-row-test.true c.row-item.is (sym c.is_held.ensures ∙ w.if-is_held.false) in
          rw (w.names-is, c.loop-row.invariant, failed)
    ]
