-- Cookie values that are signed, as Django 4.2's `set_signed_cookie` writes them.
use Rattle.std.specs.Prelude.{ℕ, List, ◌++◌, codes}
use Rattle.signing_core.specs.Signature.{signed_text, timed_value}

-- what comes before each key
unfoldable pub cookie_prefix : List ℕ
cookie_prefix = codes "django.http.cookies"

-- the salt of a signature for a cookie of this name
abbrev pub salt_with_name : List ℕ → List ℕ → List ℕ
salt_with_name name salt = name ++ salt

-- the cookie's value, signed under a key with the time
abbrev pub cookie_text : List ℕ → List ℕ → List ℕ → List ℕ → ℕ → List ℕ
cookie_text name value salt key time = signed_text (timed_value value time) cookie_prefix (salt_with_name name salt) key
