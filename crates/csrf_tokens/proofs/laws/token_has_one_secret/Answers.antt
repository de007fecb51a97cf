use Rattle.csrf_tokens.proofs.SecretLemmas.{one_secret}
use Rattle.csrf_tokens.proofs.laws.token_has_one_secret.Goals as goal

pub returns : goal.returns
returns c = one_secret
