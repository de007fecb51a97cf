use Rattle.signing_core.proofs.SignatureLemmas.{timestamped_text_tells_value}
use Rattle.signing_core.proofs.laws.timestamped_text_tells_value.Goals as goal

pub returns : goal.returns
returns c = timestamped_text_tells_value
