-- MD5 digests as text.
use Rattle.std.specs.Prelude.{ℕ, List}
use Rattle.hex.specs.Hex.{encode_lower}
use Rattle.md5.specs.Md5.{md5}

-- the lower case hex digits of a message's MD5 digest
unfoldable pub md5_hex : List ℕ → List ℕ
md5_hex message = encode_lower (md5 message)
