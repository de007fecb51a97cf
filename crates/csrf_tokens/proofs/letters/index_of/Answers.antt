use Rattle.std.proofs.Common.{arith}
use Rattle.csrf_tokens.proofs.LetterLemmas.{index_of-by_ranges, IsLetter-in_a_range}
use Rattle.csrf_tokens.proofs.letters.index_of.Goals as goal

pub overflow_sub-result-in_default : goal.overflow_sub-result-in_default
overflow_sub-result-in_default c = grind (arith, IsLetter-in_a_range c.args.letter c.requires)

pub returns-in-48-to-57-clause-index : goal.returns-in-48-to-57-clause-index
returns-in-48-to-57-clause-index c = grind (arith, index_of-by_ranges c.args.letter c.requires)

pub returns-in-65-to-90-clause-index : goal.returns-in-65-to-90-clause-index
returns-in-65-to-90-clause-index c = grind (arith, index_of-by_ranges c.args.letter c.requires)

pub returns-in_default-clause-index : goal.returns-in_default-clause-index
returns-in_default-clause-index c = grind (arith, index_of-by_ranges c.args.letter c.requires, IsLetter-in_a_range c.args.letter c.requires)

pub returns-in_default-clause-within : goal.returns-in_default-clause-within
returns-in_default-clause-within c = grind (arith, IsLetter-in_a_range c.args.letter c.requires)
