-- Random texts, as Django's `get_random_string` makes them: each random word picks a letter.
use Rattle.std.specs.Prelude.{ℕ, ◌*◌, ◌/◌, ◌^◌, List, codes, length, map, slice_index}
use Rattle.crypto_text.specs.declared.alphabet.Alphabet.{Alphabet}
use Rattle.crypto_text.specs.declared.alphabet.Alphabet.TheVariants.{Session36, Letters62}

-- the 36 letters of session keys: Django's VALID_KEY_CHARS
unfoldable pub session36 : List ℕ
session36 = codes "abcdefghijklmnopqrstuvwxyz0123456789"

-- the 62 letters of salts and secrets: Django's RANDOM_STRING_CHARS
unfoldable pub letters62 : List ℕ
letters62 = codes "abcdefghijklmnopqrstuvwxyzABCDEFGHIJKLMNOPQRSTUVWXYZ0123456789"

-- the letters of an alphabet in order
abbrev pub letters_of : Alphabet → List ℕ
letters_of Session36 = session36
letters_of Letters62 = letters62

-- the place among `size` that a word of 32 bits picks
abbrev pub place_of : ℕ → ℕ → ℕ
place_of word size = word * size / 2 ^ 32

-- the letter that a word picks
abbrev pub letter_for : List ℕ → ℕ → ℕ
letter_for letters word = slice_index letters (place_of word (length letters))

-- the letters that the words pick, in order
abbrev pub random_text : List ℕ → List ℕ → List ℕ
random_text letters words = map (letter_for letters) words
