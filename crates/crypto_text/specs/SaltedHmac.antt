-- Keyed digests that are set apart by a salt, after Django 4.2's `salted_hmac` with SHA-256.
use Rattle.std.specs.Prelude.{ℕ, List, ◌++◌}
use Rattle.sha2.specs.Sha256.{sha256}
use Rattle.crypto_text.specs.Rfc2104.{hmac}

-- the MAC of a value under a key that is derived from the salt and the secret
unfoldable pub salted_hmac : List ℕ → List ℕ → List ℕ → List ℕ
salted_hmac key_salt value secret = hmac sha256 (sha256 (key_salt ++ secret)) value
