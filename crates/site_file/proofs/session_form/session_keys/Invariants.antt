use Rattle.std.proofs.Common.{◌≡◌, take}
use Rattle.site_file.specs.OpeningForm.{keys_of_entries}
use Rattle.site_file.proofs.session_form.session_keys.Given as goal

abbrev pub invariant-loop-entry : goal.invariant-loop-entry
invariant-loop-entry l = l.keys.items ≡ keys_of_entries (take l.entry-index l.sessions)
