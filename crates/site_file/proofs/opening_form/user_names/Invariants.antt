use Rattle.std.proofs.Common.{◌≡◌, take}
use Rattle.ledger_rows.specs.Opening.{names_of_users}
use Rattle.site_file.proofs.opening_form.user_names.Given as goal

abbrev pub invariant-loop-user : goal.invariant-loop-user
invariant-loop-user l = l.names.items ≡ names_of_users (take l.user-index l.users)
