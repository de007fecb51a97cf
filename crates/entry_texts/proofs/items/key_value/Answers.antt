use Rattle.std.proofs.Common.{arith}
use Rattle.entry_texts.proofs.items.key_value.Goals as goal

pub returns-clause-bytes : goal.returns-clause-bytes
returns-clause-bytes c = λ i. let byte = c.type_inv.key i in omega arith
