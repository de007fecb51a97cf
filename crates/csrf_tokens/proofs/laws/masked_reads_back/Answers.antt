use Rattle.csrf_tokens.proofs.SecretLemmas.{masked_reads_back}
use Rattle.csrf_tokens.proofs.laws.masked_reads_back.Goals as goal

pub returns : goal.returns
returns c = masked_reads_back
