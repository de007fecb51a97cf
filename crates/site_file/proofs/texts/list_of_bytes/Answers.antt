use Rattle.std.proofs.Common.{ap, Err, []}
use Rattle.signing_core.proofs.KeysLemmas.{AreDifferent-not_twice}
use Rattle.site_file.proofs.texts.list_of_bytes.Goals as goal

pub returns-in-Err-Length-clause-form : goal.returns-in-Err-Length-clause-form
returns-in-Err-Length-clause-form c = λ _ form.
    let found = (c.in-Err-Length.ensures.length c.in-Err-Length.field-0-0).0 (ap Err c.in-Err-Length.field-0-is) in
    found.1.other (form.lengths _ [] found.1.within)

pub returns-in-Err-Twice-clause-form : goal.returns-in-Err-Twice-clause-form
returns-in-Err-Twice-clause-form c = λ _ form.
    let found = (c.in-Err-Twice.ensures.twice c.in-Err-Twice.field-0-0).0 (ap Err c.in-Err-Twice.field-0-is) in
    AreDifferent-not_twice _ _ form.different found.2
