use Rattle.std.proofs.Common.{rules}
use Rattle.ledger_rows.proofs.PayloadLemmas.{payload-by_none, payload-by_result}
use Rattle.ledger_rows.proofs.well_formed.is_payload.Goals as goal

pub returns-in-Ok : goal.returns-in-Ok
returns-in-Ok c = payload-by_result _ _ c.is_written.result c.in-Ok.ensures.ok c.in-Ok.ensures.session c.is_written.ensures

pub returns-in-Err-Corrupt : goal.returns-in-Err-Corrupt
returns-in-Err-Corrupt c = payload-by_none c.args.text.now (search rules)
