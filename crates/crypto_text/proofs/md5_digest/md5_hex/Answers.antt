use Rattle.std.proofs.Common.{rules}
use Rattle.crypto_text.specs.Md5Hex.{md5_hex}
use Rattle.crypto_text.proofs.md5_digest.md5_hex.Goals as goal

pub returns : goal.returns
unfolding md5_hex
returns c = search rules
