use Rattle.std.proofs.Common.{refl}
use Rattle.csrf_tokens.specs.Letters.{letter_at}
use Rattle.csrf_tokens.proofs.LetterLemmas.{IsLetter-letter_at, index_of-letter_at}
use Rattle.csrf_tokens.proofs.letters.letter_at.Goals as goal
use Rattle.crypto_text.specs.Alphabet.{letters62}

pub returns-clause-letter : goal.returns-clause-letter
unfolding letter_at letters62
returns-clause-letter c = rw c.from.ensures (IsLetter-letter_at c.args.index c.requires)

pub returns-clause-index : goal.returns-clause-index
unfolding letter_at letters62
returns-clause-index c = rw c.from.ensures (index_of-letter_at c.args.index c.requires)

pub returns-clause-value : goal.returns-clause-value
unfolding letter_at letters62
returns-clause-value c = rw c.from.ensures refl
