use Rattle.std.proofs.Common.{Err, ap, sym}
use Rattle.ledger_rows.specs.Admission.{map_in}
use Rattle.session_engines.proofs.load.map_of.Goals as goal

pub returns-in-Err-Expired : goal.returns-in-Err-Expired
returns-in-Err-Expired c = sym (ap map_in ((c.in-Err-Expired.ensures.expired c.in-Err-Expired.field-0-0).0 (ap Err c.in-Err-Expired.field-0-is)))
