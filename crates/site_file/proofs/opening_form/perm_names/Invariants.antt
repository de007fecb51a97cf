use Rattle.std.proofs.Common.{◌≡◌, take}
use Rattle.ledger_rows.specs.Opening.{names_of_perms}
use Rattle.site_file.proofs.opening_form.perm_names.Given as goal

abbrev pub invariant-loop-perm : goal.invariant-loop-perm
invariant-loop-perm l = l.names.items ≡ names_of_perms (take l.perm-index l.perms)
