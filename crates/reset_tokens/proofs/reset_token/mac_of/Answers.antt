use Rattle.reset_tokens.proofs.ResetTokenLemmas.{IsAscii-mac}
use Rattle.reset_tokens.proofs.reset_token.mac_of.Goals as goal

pub returns-clause-ascii : goal.returns-clause-ascii
returns-clause-ascii c = λ i. rw (c.every_second.ensures, c.hex_of.ensures) (IsAscii-mac _ i)
