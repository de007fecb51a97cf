use Rattle.middleware_chain.proofs.SecretLemmas.{letters_are_text}
use Rattle.middleware_chain.proofs.secret.letters_text.Goals as goal

pub unreachable-requires : goal.unreachable-requires
unreachable-requires c = c.in-Err.ensures.cases.0 (letters_are_text _ c.requires)
