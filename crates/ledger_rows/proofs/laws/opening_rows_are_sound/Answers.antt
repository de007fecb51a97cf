use Rattle.ledger_rows.proofs.OpeningLemmas.{opening_rows_are_sound}
use Rattle.ledger_rows.proofs.laws.opening_rows_are_sound.Goals as goal

pub returns : goal.returns
returns c = opening_rows_are_sound
