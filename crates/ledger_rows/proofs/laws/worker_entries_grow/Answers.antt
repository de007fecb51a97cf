use Rattle.std.proofs.Common.{[], ◌∷◌}
use Rattle.std.proofs.lemmas.List.Elements.{filter-append}
use Rattle.ledger_rows.specs.History.{is_of_worker}
use Rattle.ledger_rows.proofs.laws.worker_entries_grow.Goals as goal

pub returns : goal.returns
returns c = λ entries entry boot worker. filter-append (is_of_worker boot worker) entries (entry ∷ [])
