use Rattle.ledger_rows.proofs.AdmissionLemmas.{load_admits_exactly}
use Rattle.ledger_rows.proofs.laws.load_admits_exactly.Goals as goal

pub returns : goal.returns
returns c = load_admits_exactly
