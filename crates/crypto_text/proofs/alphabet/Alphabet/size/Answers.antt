use Rattle.std.proofs.Common.{sym}
use Rattle.crypto_text.proofs.AlphabetLemmas.{length-letters62, length-session36}
use Rattle.crypto_text.proofs.alphabet.Alphabet.size.Goals as goal

pub returns-in-Session36-clause-value : goal.returns-in-Session36-clause-value
returns-in-Session36-clause-value c = rw c.in-Session36.is (sym length-session36)

pub returns-in-Letters62-clause-value : goal.returns-in-Letters62-clause-value
returns-in-Letters62-clause-value c = rw c.in-Letters62.is (sym length-letters62)
