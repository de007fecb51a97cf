use Rattle.crypto_text.proofs.KeyedLemmas.{block_key-long, block_key-short}
use Rattle.crypto_text.proofs.keyed.block_key.Goals as goal

pub returns-then-key-gt-BLOCK : goal.returns-then-key-gt-BLOCK
returns-then-key-gt-BLOCK g c = rw (block_key-long _ _ c.if-key-gt-BLOCK.true, ← c.digest.ensures) c.filled.ensures

pub returns-else-key-gt-BLOCK : goal.returns-else-key-gt-BLOCK
returns-else-key-gt-BLOCK g c = rw (block_key-short _ _ c.if-key-gt-BLOCK.false) c.filled-else-key-gt-BLOCK.ensures
