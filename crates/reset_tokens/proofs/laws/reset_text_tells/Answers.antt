use Rattle.reset_tokens.proofs.ResetTextLemmas.{reset_text_tells}
use Rattle.reset_tokens.proofs.laws.reset_text_tells.Goals as goal

pub returns : goal.returns
returns c = reset_text_tells
