use Rattle.crypto_text.proofs.HexadecimalLemmas.{length-hex_text}
use Rattle.crypto_text.proofs.laws.hex_has_length.Goals as goal

pub returns : goal.returns
returns c = length-hex_text
