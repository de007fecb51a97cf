-- What a password text says of a password and of itself, as functions. `Verifies` and `IsOutdated` of pass_hashers say it by
-- parts that the text has; here they are read from its front.
use Rattle.std.specs.Prelude.{◌==◌, ℕ, ◌+◌, nat_le, nat_lt, List, [], ◌∷◌, Bool, true, false, not, ◌&&◌, ◌||◌, Option, Some, None, if◌then◌else◌, bytes_eq, drop, find, length, option_and_then, option_map, position, take}
use Rattle.std.specs.List.{list_all, list_any}
use Rattle.std.specs.Option.{option_map_or}
use Rattle.crypto_text.specs.Numeral.{positive_of}
use Rattle.pass_hashers.specs.PasswordText.{algo_of, dollar, last_part, name_of}
use Rattle.pass_hashers.specs.declared.hasher.Algo.{Algo}
use Rattle.pass_hashers.specs.declared.hasher.Algo.TheVariants as algos
use Rattle.pass_hashers.specs.declared.hasher.Hasher.{Hasher}
use Rattle.pass_hashers.specs.declared.hasher.Hasher.TheVariants.{Pbkdf2Sha256, Pbkdf2Sha1, Md5}

-- ---- the parts of a text

-- the parts of a text; the last one may be any text
pub record PasswordParts : Type 0 where
  pub hasher : Hasher
  pub salt : List ℕ
  pub last : List ℕ

-- both sides of the first `$`, where there is one
unfoldable pub cut_at_dollar : List ℕ → Option (List ℕ × List ℕ)
cut_at_dollar text = option_map (λ place. (take place text, drop (place + 1) text)) (position (λ byte. byte == dollar) text)

-- the algorithm of the name
unfoldable pub algo_named : List ℕ → Option Algo
algo_named name = find (λ algo. bytes_eq name (name_of algo)) (algos.Pbkdf2Sha256 ∷ algos.Pbkdf2Sha1 ∷ algos.Md5 ∷ [])

-- the number from 1 to 10,000,000 that the text is in decimal, without a leading zero
unfoldable pub iterations_of : List ℕ → Option ℕ
iterations_of text = option_and_then (λ n. if nat_le n 10000000 then Some n else None) (positive_of text)

-- from `!` to `~`, but `$`
abbrev pub is_salt_byte : ℕ → Bool
is_salt_byte byte = nat_le 33 byte && nat_le byte 126 && not (byte == dollar)

-- 1 to 64 such bytes
unfoldable pub is_salt : List ℕ → Bool
is_salt salt = nat_le 1 (length salt) && nat_le (length salt) 64 && list_all is_salt_byte salt

-- the parts of a text of the hasher, by what follows its iterations or else its name
unfoldable pub salted_parts : Hasher → List ℕ → Option PasswordParts
salted_parts hasher rest = option_and_then (λ cut. if is_salt cut.0 then Some (record { hasher = hasher; salt = cut.0; last = cut.1 }) else None) (cut_at_dollar rest)

-- the parts of a text of PBKDF2, by what follows the name; its hasher is made of the iterations
unfoldable pub iterated_parts : (ℕ → Hasher) → List ℕ → Option PasswordParts
iterated_parts hasher_by rest = option_and_then (λ cut. option_and_then (λ iterations. salted_parts (hasher_by iterations) cut.1) (iterations_of cut.0)) (cut_at_dollar rest)

-- the parts of a text of the algorithm, by what follows the name
abbrev pub parts_behind : Algo → List ℕ → Option PasswordParts
parts_behind algos.Pbkdf2Sha256 rest = iterated_parts Pbkdf2Sha256 rest
parts_behind algos.Pbkdf2Sha1 rest = iterated_parts Pbkdf2Sha1 rest
parts_behind algos.Md5 rest = salted_parts Md5 rest

-- the parts of a text, where it has them
unfoldable pub read_text : List ℕ → Option PasswordParts
read_text text = option_and_then (λ cut. option_and_then (λ algo. parts_behind algo cut.1) (algo_named cut.0)) (cut_at_dollar text)

-- ---- what the parts say

-- the same algorithm
abbrev pub is_same_algo : Algo → Algo → Bool
is_same_algo first second = bytes_eq (name_of first) (name_of second)

-- the same hasher, with the same iterations
abbrev pub is_same_hasher : Hasher → Hasher → Bool
is_same_hasher (Pbkdf2Sha256 m) (Pbkdf2Sha256 n) = m == n
is_same_hasher (Pbkdf2Sha1 m) (Pbkdf2Sha1 n) = m == n
is_same_hasher Md5 Md5 = true
is_same_hasher first second = false

-- the algorithm is installed, and the last part is what the hasher makes of the password under the salt
unfoldable pub fits : List ℕ → List Algo → PasswordParts → Bool
fits password installed parts = list_any (is_same_algo (algo_of parts.hasher)) installed && bytes_eq parts.last (last_part parts.hasher password parts.salt)

-- the hasher isn't the preferred one, or the salt is shorter than 22 bytes
unfoldable pub is_old : Hasher → PasswordParts → Bool
is_old preferred parts = not (is_same_hasher parts.hasher preferred) || nat_lt (length parts.salt) 22

-- whether the password is the one that the text was made of, by a hasher that is installed
unfoldable pub verifies : List ℕ → List ℕ → List Algo → Bool
verifies password text installed = option_map_or (fits password installed) (read_text text) false

-- whether a text that verifies is to be made anew by the preferred hasher; of other texts it says nothing
unfoldable pub is_outdated : List ℕ → Hasher → Bool
is_outdated text preferred = option_map_or (is_old preferred) (read_text text) false
