use Rattle.crypto_text.proofs.CutLemmas.{IsCutAtFirst-once, IsCutAtLast-once}
use Rattle.crypto_text.proofs.laws.cut_tells_parts.Goals as goal

pub returns : goal.returns
returns c = record { first = IsCutAtFirst-once; last = IsCutAtLast-once }
