use Rattle.std.proofs.Common.{refl}
use Rattle.std.proofs.lemmas.Str.Ascii.{trim_ascii_is}
use Rattle.crypto_text.specs.WhiteSpace.{without_front_space}
use Rattle.crypto_text.proofs.white_space.trimmed.Goals as goal

pub returns : goal.returns
returns c = trim_ascii_is c.args.text.now _ (without_front_space c.args.text.now) refl c.trim_ascii.ensures.value
