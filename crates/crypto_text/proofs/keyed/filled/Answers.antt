use Rattle.crypto_text.proofs.KeyedLemmas.{filled-written}
use Rattle.crypto_text.proofs.keyed.filled.Goals as goal

pub returns : goal.returns
returns c = filled-written c.copy_from_slice.new.self c.args.bytes.now c.copy_from_slice.ensures.after
