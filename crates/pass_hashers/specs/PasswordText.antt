-- Password texts: what a user's password is kept as, after Django 4.2's password hashers.
use Rattle.std.specs.Prelude.{◌≡◌, ◌≢◌, ◌⊎◌, ◌==◌, ℕ, ◌<◌, ◌≤◌, List, ◌∷◌, ◌++◌, All, Contains, codes, length, slice_index}
use Rattle.std.specs.Fmt.{decimal}
use Rattle.std.specs.List.{before_first}
use Rattle.base64.specs.Engines.{standard}
use Rattle.base64.specs.GeneralPurpose.{encode_of}
use Rattle.hex.specs.Hex.{encode_lower}
use Rattle.crypto_text.specs.Alphabet.{letters62, random_text}
use Rattle.crypto_text.specs.HashFunctions.{md5, sha1, sha256}
use Rattle.crypto_text.specs.Rfc2104.{hmac}
use Rattle.crypto_text.specs.Rfc8018.{derived_key}
use Rattle.pass_hashers.specs.declared.hasher.Algo.{Algo}
use Rattle.pass_hashers.specs.declared.hasher.Algo.TheVariants as algos
use Rattle.pass_hashers.specs.declared.hasher.Hasher.{Hasher}
use Rattle.pass_hashers.specs.declared.hasher.Hasher.TheVariants.{Pbkdf2Sha256, Pbkdf2Sha1, Md5}

-- `$`, which stands between the parts
abbrev pub dollar : ℕ
dollar = 36

-- the algorithm of a hasher
abbrev pub algo_of : Hasher → Algo
algo_of (Pbkdf2Sha256 iterations) = algos.Pbkdf2Sha256
algo_of (Pbkdf2Sha1 iterations) = algos.Pbkdf2Sha1
algo_of Md5 = algos.Md5

-- an algorithm's name, with which its texts begin
abbrev pub name_of : Algo → List ℕ
name_of algos.Pbkdf2Sha256 = codes "pbkdf2_sha256"
name_of algos.Pbkdf2Sha1 = codes "pbkdf2_sha1"
name_of algos.Md5 = codes "md5"

-- how many bytes its digests have
abbrev pub digest_size : Algo → ℕ
digest_size algos.Pbkdf2Sha256 = 32
digest_size algos.Pbkdf2Sha1 = 20
digest_size algos.Md5 = 16

-- how a digest is written: padded standard base64, or lower case hex
abbrev pub digest_text : Algo → List ℕ → List ℕ
digest_text algos.Pbkdf2Sha256 digest = encode_of standard digest
digest_text algos.Pbkdf2Sha1 digest = encode_of standard digest
digest_text algos.Md5 digest = encode_lower digest

-- from 1 to 10,000,000
abbrev pub AreIterations : ℕ → Type 0
AreIterations iterations = (1 ≤ iterations) × (iterations ≤ 10000000)

-- the hasher's iterations are allowed
abbrev pub IsUsable : Hasher → Type 0
IsUsable (Pbkdf2Sha256 iterations) = AreIterations iterations
IsUsable (Pbkdf2Sha1 iterations) = AreIterations iterations
IsUsable Md5 = Unit {0}

-- a visible ASCII character, from `!` to `~`, but `$`
abbrev pub IsSaltByte : ℕ → Type 0
IsSaltByte byte = (33 ≤ byte) × (byte ≤ 126) × (byte ≢ dollar)

-- 1 to 64 such characters
unfoldable pub IsSalt : List ℕ → Type 0
IsSalt salt = (1 ≤ length salt) × (length salt ≤ 64) × All IsSaltByte salt

-- the last part of a text: what is written of some digest of the algorithm's size
unfoldable pub IsDigestText : Algo → List ℕ → Type 0
IsDigestText algo text = (digest : List ℕ) × (length digest ≡ digest_size algo) × ((i : ℕ) → slice_index digest i < 256)
    × (text ≡ digest_text algo digest)

-- the text behind the name: the iterations of PBKDF2 in decimal digits, the salt and the written
-- digest, with a `$` between each two
abbrev pub rest_text : Hasher → List ℕ → List ℕ → List ℕ
rest_text (Pbkdf2Sha256 iterations) salt last = decimal iterations ++ dollar ∷ (salt ++ dollar ∷ last)
rest_text (Pbkdf2Sha1 iterations) salt last = decimal iterations ++ dollar ∷ (salt ++ dollar ∷ last)
rest_text Md5 salt last = salt ++ dollar ∷ last

-- the whole text: the name, `$` and the rest
abbrev pub joined_text : Hasher → List ℕ → List ℕ → List ℕ
joined_text hasher salt last = name_of (algo_of hasher) ++ dollar ∷ rest_text hasher salt last

-- the text has these parts, each in form
pub record HasParts (text : List ℕ) (hasher : Hasher) (salt last : List ℕ) : Type 0 where
  pub whole : text ≡ joined_text hasher salt last
  pub usable : IsUsable hasher
  pub salted : IsSalt salt
  pub digest : IsDigestText (algo_of hasher) last

-- the text is one of this hasher
abbrev pub IsTextOf : List ℕ → Hasher → Type 0
IsTextOf text hasher = (salt : List ℕ) × (last : List ℕ) × HasParts text hasher salt last

-- it begins with `!`, as Django's UNUSABLE_PASSWORD_PREFIX
abbrev pub IsMarkedUnusable : List ℕ → Type 0
IsMarkedUnusable text = slice_index text 0 ≡ 33

-- the text of an account that no password opens: `!` and a letter for each random word
abbrev pub unusable_text : List ℕ → List ℕ
unusable_text words = 33 ∷ random_text letters62 words

-- one of the 62 letters and digits of random texts
unfoldable pub IsLetter : ℕ → Type 0
IsLetter byte = Contains letters62 byte

-- `!` and 40 of them
unfoldable pub IsUnusable : List ℕ → Type 0
IsUnusable text = (letters : List ℕ) × (text ≡ 33 ∷ letters) × (length letters ≡ 40) × All IsLetter letters

-- a text that can stand for a user's password: a hasher's, or an unusable one
abbrev pub IsPasswordText : List ℕ → Type 0
IsPasswordText text = ((hasher : Hasher) × IsTextOf text hasher) ⊎ IsUnusable text

-- the part before the first `$`, or the whole text, is the algorithm's name
abbrev pub IsNamed : List ℕ → Algo → Type 0
IsNamed text algo = before_first (λ byte. byte == dollar) text ≡ name_of algo

-- the part before the first `$`, or the whole text, is one of the names
abbrev pub HasKnownName : List ℕ → Type 0
HasKnownName text = (algo : Algo) × IsNamed text algo

-- the digest that a hasher makes of a password under a salt
unfoldable pub digest_of : Hasher → List ℕ → List ℕ → List ℕ
digest_of (Pbkdf2Sha256 iterations) password salt = derived_key (hmac sha256) 32 password salt iterations 32
digest_of (Pbkdf2Sha1 iterations) password salt = derived_key (hmac sha1) 20 password salt iterations 20
digest_of Md5 password salt = md5 (salt ++ password)

-- the last part of the text that a hasher makes
abbrev pub last_part : Hasher → List ℕ → List ℕ → List ℕ
last_part hasher password salt = digest_text (algo_of hasher) (digest_of hasher password salt)

-- the text that a hasher makes of a password under a salt
abbrev pub password_text : Hasher → List ℕ → List ℕ → List ℕ
password_text hasher password salt = joined_text hasher salt (last_part hasher password salt)

-- the text is one of a hasher whose algorithm is installed, and its last part is the one that this
-- hasher makes of the password under the text's salt
abbrev pub Verifies : List ℕ → List ℕ → List Algo → Type 0
Verifies password text installed = (hasher : Hasher) × (salt : List ℕ) × HasParts text hasher salt (last_part hasher password salt)
    × Contains installed (algo_of hasher)

-- the text is one of another algorithm or of other iterations than the preferred hasher's, or its
-- salt is shorter than 22 bytes
abbrev pub IsOutdated : List ℕ → Hasher → Type 0
IsOutdated text preferred = (hasher : Hasher) × (salt : List ℕ) × (last : List ℕ) × HasParts text hasher salt last
    × ((hasher ≢ preferred) ⊎ (length salt < 22))
