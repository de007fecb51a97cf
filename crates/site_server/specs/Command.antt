-- The commands of the program, and the lines that they write: this project's own.
use Rattle.std.specs.Prelude.{◌≡◌, ◌⊎◌, ℕ, Bool, List, [], ◌∷◌, ◌++◌, Option, None, Some, bytes_eq, codes, if◌then◌else◌, option_map}
use Rattle.crypto_text.specs.Numeral.{decimal_of}
use Rattle.signing_core.specs.Keys.{key_at}
use Rattle.signing_core.specs.Signature.{signed_text, timed_value}
use Rattle.signing_core.specs.TimedText.{HasTimedFault, IsCurrent}
use Rattle.signing_core.specs.declared.signer.TimedFault.{TimedFault}
use Rattle.signing_core.specs.declared.signer.TimedFault.TheVariants.{BadSignature, BadTime, Expired, NoSeparator}
use Rattle.middleware_chain.specs.Page.{line}
use Rattle.site_server.specs.declared.command.Command.{Command}
use Rattle.site_server.specs.declared.command.Command.TheVariants.{ServePipe, SignValue, UnsignText}
use Rattle.site_server.specs.declared.status.Status.{Status}
use Rattle.site_server.specs.declared.status.Status.TheVariants.{Done, Refused}

-- what the words ask for
pub data Asked : Type 0 where
  Pipe : Asked
  Sign : (salt value : List ℕ) → Asked
  Unsign : (salt : List ℕ) (max_age : ℕ) (text : List ℕ) → Asked

-- what a command asks for
abbrev pub asked_by_command : Command → Asked
asked_by_command ServePipe = Pipe
asked_by_command (SignValue salt value) = Sign salt.now value.now
asked_by_command (UnsignText salt max_age text) = Unsign salt.now max_age text.now

-- after `pipe` there is no word
abbrev pub pipe_of : List (List ℕ) → Option Asked
pipe_of [] = Some Pipe
pipe_of (word ∷ words) = None

-- after `sign` there are a salt and a value
abbrev pub sign_of : List (List ℕ) → Option Asked
sign_of [] = None
sign_of (salt ∷ []) = None
sign_of (salt ∷ value ∷ []) = Some (Sign salt value)
sign_of (salt ∷ value ∷ word ∷ words) = None

-- after `unsign` there are a salt, the greatest age in seconds in decimal, and a text
abbrev pub unsign_of : List (List ℕ) → Option Asked
unsign_of [] = None
unsign_of (salt ∷ []) = None
unsign_of (salt ∷ age ∷ []) = None
unsign_of (salt ∷ age ∷ text ∷ []) = option_map (λ max_age. Unsign salt max_age text) (decimal_of age)
unsign_of (salt ∷ age ∷ text ∷ word ∷ words) = None

-- by the name of the command
abbrev pub asked_by : List ℕ → List (List ℕ) → Option Asked
asked_by name rest =
    if bytes_eq name (codes "pipe") then pipe_of rest
    else if bytes_eq name (codes "sign") then sign_of rest
    else if bytes_eq name (codes "unsign") then unsign_of rest
    else None

-- the one store that there is so far: in memory
abbrev pub is_store : List ℕ → Bool
is_store word = bytes_eq word (codes "mem")

-- the words are a settings file, a store, a command and its own words
abbrev pub asked_of : List (List ℕ) → Option Asked
asked_of [] = None
asked_of (settings ∷ []) = None
asked_of (settings ∷ store ∷ []) = None
asked_of (settings ∷ store ∷ name ∷ rest) = if is_store store then asked_by name rest else None

-- what is written where the words are no command
abbrev pub usage_line : List ℕ
usage_line = codes "usage\n"

-- what is written where a command is refused
unfoldable pub refused_line : List ℕ → List ℕ
refused_line code = codes "refused=" ++ line code

-- what `sign` writes: the value, signed with the moment under the first key, without a prefix
abbrev pub signed_line : List (List ℕ) → List ℕ → List ℕ → ℕ → List ℕ
signed_line keys salt value now = line (signed_text (timed_value value now) [] salt (key_at keys 0))

-- why `unsign` refuses a text
abbrev pub code_of : TimedFault → List ℕ
code_of NoSeparator = codes "no-separator"
code_of BadSignature = codes "bad-signature"
code_of BadTime = codes "bad-time"
code_of (Expired age) = codes "expired"

-- what `sign` writes at a moment, and how it ends
abbrev pub IsSigned : List (List ℕ) → List ℕ → List ℕ → ℕ → List ℕ → Status → Type 0
IsSigned keys salt value now due end = (due ≡ signed_line keys salt value now) × (end ≡ Done)

-- what `unsign` writes at a moment, and how it ends: the value of a text that is signed and not too old, or why there is none
abbrev pub IsUnsigned : List (List ℕ) → List ℕ → ℕ → List ℕ → ℕ → List ℕ → Status → Type 0
IsUnsigned keys salt max_age text now due end =
    ((value : List ℕ) × IsCurrent text value [] salt keys now (Some max_age) × (due ≡ line value) × (end ≡ Done))
    ⊎ ((fault : TimedFault) × HasTimedFault text [] salt keys now (Some max_age) fault × (due ≡ refused_line (code_of fault)) × (end ≡ Refused))
