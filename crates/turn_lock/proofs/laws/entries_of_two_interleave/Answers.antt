use Rattle.turn_lock.proofs.ListLemmas.{interleaved}
use Rattle.turn_lock.proofs.laws.entries_of_two_interleave.Goals as goal

pub returns : goal.returns
returns g c = λ first second entries apart only. interleaved g.B.Booked.means.owner first second apart entries only
