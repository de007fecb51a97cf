use Rattle.pass_hashers.proofs.LetterLemmas.{random_letters_are_salt}
use Rattle.pass_hashers.proofs.laws.random_letters_are_salt.Goals as goal

pub returns : goal.returns
returns c = random_letters_are_salt
