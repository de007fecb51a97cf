-- The forms of a secret that a client sends, after Django 4.2's `_check_token_format` and `_does_token_match`.
use Rattle.std.specs.Prelude.{◌≡◌, ℕ, ◌==◌, ◌||◌, Bool, if◌then◌else◌, List, length}
use Rattle.csrf_tokens.specs.declared.form.Form.{Form}
use Rattle.csrf_tokens.specs.declared.form.Form.TheVariants.{Bare, Masked}
use Rattle.csrf_tokens.specs.Letters.{AreLetters}
use Rattle.csrf_tokens.specs.Tokens.{unmasked}

-- the bytes that a form stands for
abbrev pub text_of : Form → List ℕ
text_of (Bare secret) = secret
text_of (Masked token) = token

-- the secret that a form carries
abbrev pub secret_of : Form → List ℕ
secret_of (Bare secret) = secret
secret_of (Masked token) = unmasked token

-- as long as a secret, or as a token
abbrev pub has_token_length : List ℕ → Bool
has_token_length text = (length text == 32) || (length text == 64)

-- the secret that a text carries: itself where it is as long as one, else what it masks
abbrev pub carried_secret : List ℕ → List ℕ
carried_secret text = if length text == 32 then text else unmasked text

-- the form is this text, which has letters alone
pub record IsFormOf (text : List ℕ) (form : Form) : Type 0 where
  pub bytes : text_of form ≡ text
  pub letters : AreLetters text
  pub secret : secret_of form ≡ carried_secret text
