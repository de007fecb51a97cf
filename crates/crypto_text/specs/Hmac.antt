-- What the states of `Hmac256` and `Salted` have taken.
use Rattle.std.specs.Prelude.{ℕ, List, ◌++◌}
use Rattle.sha2.specs.Hashers.{Holds256}
use Rattle.sha2.specs.Sha256.{sha256}
use Rattle.crypto_text.specs.declared.hmac.Hmac256.{Hmac256}
use Rattle.crypto_text.specs.declared.hmac.Salted.{Salted}
use Rattle.crypto_text.specs.Rfc2104.{inner_pad, outer_pad}

-- the MAC in the making is under this key and has taken this message
pub record Holds (mac : Hmac256) (key message : List ℕ) : Type 0 where
  pub inner : Holds256 mac.inner (inner_pad sha256 key ++ message)
  pub outer : Holds256 mac.outer (outer_pad sha256 key)

-- the key in the making has taken these bytes of a salt and a secret
pub record HoldsKey (key : Salted) (parts : List ℕ) : Type 0 where
  pub hash : Holds256 key.hash parts
