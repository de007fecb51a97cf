-- What the grammar of password texts is good for.
use Rattle.std.specs.Prelude.{◌≡◌, ◌<◌, ◌≤◌, ◌^◌, ◌++◌, ℕ, List, All, Contains, length, slice_index}
use Rattle.std.specs.Int.{IsInRange}
use Rattle.crypto_text.specs.Alphabet.{letters62, random_text}
use Rattle.pass_hashers.specs.PasswordText.{HasParts, IsPasswordText, IsSalt, IsUsable, Verifies, algo_of, password_text}
use Rattle.pass_hashers.specs.declared.hasher.Algo.{Algo}
use Rattle.pass_hashers.specs.declared.hasher.Hasher.{Hasher}

-- a text has one hasher, salt and last part
abbrev pub PartsAreUnique : Type 0
PartsAreUnique = (text : List ℕ) (first second : Hasher) (salt other last end : List ℕ) → HasParts text first salt last → HasParts text second other end
    → (first ≡ second) × (salt ≡ other) × (last ≡ end)

-- what a usable hasher makes of a password under a salt verifies it
abbrev pub MadeTextVerifies : Type 0
MadeTextVerifies = (hasher : Hasher) (password salt : List ℕ) (installed : List Algo) → IsUsable hasher → IsSalt salt → Contains installed (algo_of hasher)
    → Verifies password (password_text hasher password salt) installed

-- texts that begin one longer text are one text
abbrev pub TextShowsItsEnd : Type 0
TextShowsItsEnd = (first second behind after : List ℕ) → IsPasswordText first → IsPasswordText second → first ++ behind ≡ second ++ after
    → (first ≡ second) × (behind ≡ after)

-- a password text has a first byte, which is no digit
abbrev pub TextBeginsWithNoDigit : Type 0
TextBeginsWithNoDigit = (text : List ℕ) → IsPasswordText text → (0 < length text) × ¬ IsInRange 48 57 (slice_index text 0)

-- 1 to 64 letters that random words pick are a salt
abbrev pub RandomLettersAreSalt : Type 0
RandomLettersAreSalt = (words : List ℕ) → 1 ≤ length words → length words ≤ 64 → All (λ word. word < 2 ^ 32) words → IsSalt (random_text letters62 words)
