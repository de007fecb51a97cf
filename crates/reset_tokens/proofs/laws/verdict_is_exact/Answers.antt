use Rattle.reset_tokens.proofs.TokenVerdictLemmas.{verdict_is_exact}
use Rattle.reset_tokens.proofs.laws.verdict_is_exact.Goals as goal

pub returns : goal.returns
returns c = verdict_is_exact
