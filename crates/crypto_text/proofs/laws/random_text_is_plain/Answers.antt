use Rattle.std.proofs.Common.{arith}
use Rattle.crypto_text.specs.Alphabet.{letters62, session36}
use Rattle.crypto_text.proofs.AlphabetLemmas.{AreLetters-random_text, length-letters62, length-session36}
use Rattle.crypto_text.proofs.laws.random_text_is_plain.Goals as goal

pub returns-clause-session36 : goal.returns-clause-session36
returns-clause-session36 c = λ words below. AreLetters-random_text session36 words (omega (arith, length-session36)) below

pub returns-clause-letters62 : goal.returns-clause-letters62
returns-clause-letters62 c = λ words below. AreLetters-random_text letters62 words (omega (arith, length-letters62)) below
