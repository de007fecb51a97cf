use Rattle.pass_hashers.proofs.LastPartLemmas.{IsAscii-md5_hex}
use Rattle.pass_hashers.proofs.password_text.make.Goals as goal

pub md5_text-requires : goal.md5_text-requires
md5_text-requires c = rw c.md5_hex.ensures (IsAscii-md5_hex _)
