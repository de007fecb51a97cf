use Rattle.std.proofs.Common.{◌≡◌, take}
use Rattle.ledger_rows.specs.Opening.{names_of_groups}
use Rattle.site_file.proofs.opening_form.group_names.Given as goal

abbrev pub invariant-loop-group : goal.invariant-loop-group
invariant-loop-group l = l.names.items ≡ names_of_groups (take l.group-index l.groups)
