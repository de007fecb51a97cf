use Rattle.std.proofs.Common.{ap, ◌∙◌}
use Rattle.crypto_text.specs.Hexadecimal.{hex_text}
use Rattle.crypto_text.proofs.HexadecimalLemmas.{encode_lower-hex_text}
use Rattle.crypto_text.proofs.hexadecimal.hex_of.Goals as goal

pub returns : goal.returns
returns c = c.in-Ok.ensures.written ∙ encode_lower-hex_text _ ∙ ap hex_text c.as_slice.ensures
