-- The random texts of a request: each is made of random words of its own. The indexes are this project's own; the letters
-- are those of Django's `get_random_string`.
use Rattle.std.specs.Prelude.{ℕ, ◌+◌, ◌*◌, List, slice_range}
use Rattle.crypto_text.specs.Alphabet.{letters62, random_text, session36}

-- the session key of a try, counted from 0: Django's `_get_new_session_key`
unfoldable pub session_key : List ℕ → ℕ → List ℕ
session_key draw number = random_text session36 (slice_range draw (32 * number) (32 * number + 32))

-- a new CSRF secret: Django's `_get_new_csrf_string`
unfoldable pub new_secret : List ℕ → List ℕ
new_secret draw = random_text letters62 (slice_range draw 512 544)

-- the mask of a page's CSRF token
unfoldable pub token_mask : List ℕ → List ℕ
token_mask draw = random_text letters62 (slice_range draw 544 576)

-- the CSRF secret after a login: Django's `rotate_token`
unfoldable pub login_secret : List ℕ → List ℕ
login_secret draw = random_text letters62 (slice_range draw 576 608)

-- the salt of a new password text: Django's `BasePasswordHasher.salt`, of 22 letters
unfoldable pub new_salt : List ℕ → List ℕ
new_salt draw = random_text letters62 (slice_range draw 608 630)
