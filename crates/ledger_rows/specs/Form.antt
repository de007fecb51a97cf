-- The form of names, addresses and keys. User names are those that Django's `ASCIIUsernameValidator` takes, up to its
-- 150 characters; session keys those that its `SessionBase` makes; the rest is this project's own.
use Rattle.std.specs.Prelude.{◌≡◌, ◌==◌, ◌||◌, ◌≤◌, ℕ, Bool, List, length}
use Rattle.std.specs.Char.{is_ascii_alphanumeric, is_ascii_digit, is_ascii_graphic, is_ascii_lowercase}
use Rattle.std.specs.List.{AllPass, Contains}
use Rattle.pass_hashers.specs.PasswordText.{IsUsable, algo_of}
use Rattle.ledger_rows.specs.declared.rows.Cfg.{Cfg}

-- an ASCII letter, a digit, or one of `_ . @ + -`
abbrev pub is_name_byte : ℕ → Bool
is_name_byte c = is_ascii_alphanumeric c || (c == 95 || (c == 46 || (c == 64 || (c == 43 || c == 45))))

-- 1 to 150 of them
pub record IsUserName (name : List ℕ) : Type 0 where
  pub some : 1 ≤ length name
  pub few : length name ≤ 150
  pub bytes : AllPass is_name_byte name

-- at most 254 bytes, each from `!` to `~`
pub record IsEmail (email : List ℕ) : Type 0 where
  pub few : length email ≤ 254
  pub bytes : AllPass is_ascii_graphic email

-- a small letter or a digit
abbrev pub is_key_byte : ℕ → Bool
is_key_byte c = is_ascii_lowercase c || is_ascii_digit c

-- 32 of them
pub record IsSessionKey (key : List ℕ) : Type 0 where
  pub size : length key ≡ 32
  pub bytes : AllPass is_key_byte key

-- a small letter, a digit or `_`
abbrev pub is_word_byte : ℕ → Bool
is_word_byte c = is_key_byte c || c == 95

-- an app or a codename: at least one of them
pub record IsPermissionWord (word : List ℕ) : Type 0 where
  pub some : 1 ≤ length word
  pub bytes : AllPass is_word_byte word

-- there is a backend, and the preferred hasher is installed and its iterations are allowed
pub record IsCfg (cfg : Cfg) : Type 0 where
  pub backends : 1 ≤ length cfg.backends
  pub usable : IsUsable cfg.preferred
  pub installed : Contains cfg.installed (algo_of cfg.preferred)
