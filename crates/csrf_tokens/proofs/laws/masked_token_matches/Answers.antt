use Rattle.csrf_tokens.proofs.SecretLemmas.{masked_token_matches}
use Rattle.csrf_tokens.proofs.laws.masked_token_matches.Goals as goal

pub returns : goal.returns
returns c = masked_token_matches
