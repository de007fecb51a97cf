use Rattle.std.proofs.Common.{rules}
use Rattle.crypto_text.proofs.CutLemmas.{last_cut}
use Rattle.crypto_text.proofs.cut.cut_at_last.Goals as goal

pub returns : goal.returns
returns c = search (rules, last_cut)
