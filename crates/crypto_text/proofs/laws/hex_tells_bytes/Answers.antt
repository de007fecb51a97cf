use Rattle.crypto_text.proofs.HexadecimalLemmas.{hex_text-injective}
use Rattle.crypto_text.proofs.laws.hex_tells_bytes.Goals as goal

pub returns : goal.returns
returns c = hex_text-injective
