use Rattle.ledger_rows.specs.Opening.{IsIdAmong}
use Rattle.site_file.proofs.IdLemmas.{Contains-searched}
use Rattle.site_file.proofs.row_ids.is_present.Goals as goal

pub returns : goal.returns
unfolding IsIdAmong
returns c = rw c.is_ok.ensures.value (Contains-searched c.args.present.now c.args.id _ c.requires c.binary_search.ensures.position)
