use Rattle.std.proofs.Common.{[], ◌∷◌}
use Rattle.std.proofs.lemmas.List.Elements.{filter-append}
use Rattle.ledger_rows.specs.History.{is_own}
use Rattle.ledger_rows.proofs.laws.own_entries_grow.Goals as goal

pub returns : goal.returns
returns c = λ entries entry boot worker request. filter-append (is_own boot worker request) entries (entry ∷ [])
