use Rattle.std.proofs.Common.{◌≡◌, map, take}
use Rattle.site_file.specs.OpeningForm.{session_row}
use Rattle.site_file.proofs.opening.session_rows.Given as goal

abbrev pub invariant-loop-entry : goal.invariant-loop-entry
invariant-loop-entry l = l.rows.items ≡ map (session_row l.keys l.backends l.users) (take l.entry-index l.sessions)
