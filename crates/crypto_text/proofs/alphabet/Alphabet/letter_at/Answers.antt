use Rattle.std.proofs.Common.{refl}
use Rattle.crypto_text.specs.Alphabet.{letters62, session36}
use Rattle.crypto_text.proofs.AlphabetLemmas.{ascii_in_letters62, ascii_in_session36, length-letters62, length-session36}
use Rattle.crypto_text.proofs.alphabet.Alphabet.letter_at.Goals as goal

pub bounds-place : goal.bounds-place
bounds-place c = let lt = rw (c.in-Session36.is, length-session36) at c.requires in lt

pub bounds-place-in-Letters62 : goal.bounds-place-in-Letters62
bounds-place-in-Letters62 c = let lt = rw (c.in-Letters62.is, length-letters62) at c.requires in lt

pub returns-in-Session36-clause-letter : goal.returns-in-Session36-clause-letter
unfolding session36
returns-in-Session36-clause-letter c = rw c.in-Session36.is refl

pub returns-in-Session36-clause-ascii : goal.returns-in-Session36-clause-ascii
unfolding session36
returns-in-Session36-clause-ascii c = ascii_in_session36 c.args.place (rw c.in-Session36.is at c.requires)

pub returns-in-Letters62-clause-letter : goal.returns-in-Letters62-clause-letter
unfolding letters62
returns-in-Letters62-clause-letter c = rw c.in-Letters62.is refl

pub returns-in-Letters62-clause-ascii : goal.returns-in-Letters62-clause-ascii
unfolding letters62
returns-in-Letters62-clause-ascii c = ascii_in_letters62 c.args.place (rw c.in-Letters62.is at c.requires)
