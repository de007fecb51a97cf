use Rattle.std.proofs.Common.{◌∙◌}
use Rattle.crypto_text.proofs.HexadecimalLemmas.{encode_lower-hex_text}
use Rattle.ledger_rows.proofs.admission.hex_text.Goals as goal

pub returns : goal.returns
returns c = c.from_string.ensures ∙ c.in_ok-encode.ensures ∙ encode_lower-hex_text c.args.mac
