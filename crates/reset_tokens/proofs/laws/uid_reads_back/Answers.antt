use Rattle.std.proofs.Common.{refl, sym}
use Rattle.reset_tokens.proofs.UserIdTextLemmas.{uid_text-injective}
use Rattle.reset_tokens.proofs.laws.uid_reads_back.Goals as goal

pub returns : goal.returns
returns c = λ id other is. (λ text. sym (uid_text-injective id other is.1 text.0.1 text.1), λ same. rw same (is, refl))
