use Rattle.std.proofs.Common.{sym}
use Rattle.middleware_chain.proofs.MemoryText.{memory_text-is}
use Rattle.middleware_chain.proofs.page.memory_response.Goals as goal

pub returns : goal.returns
returns c = sym memory_text-is
