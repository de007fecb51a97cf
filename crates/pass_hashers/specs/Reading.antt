-- What reading a password text from its front has found so far.
use Rattle.std.specs.Prelude.{◌≡◌, ◌≢◌, ◌==◌, ℕ, ◌<◌, List, ◌∷◌, ◌++◌, length, slice_index}
use Rattle.std.specs.Fmt.{decimal}
use Rattle.std.specs.List.{before_first}
use Rattle.pass_hashers.specs.PasswordText.{IsDigestText, IsSalt, IsUsable, algo_of, dollar, rest_text}
use Rattle.pass_hashers.specs.declared.hasher.Algo.{Algo}
use Rattle.pass_hashers.specs.declared.hasher.Hasher.{Hasher}
use Rattle.pass_hashers.specs.declared.hasher.Hasher.TheVariants.{Pbkdf2Sha256, Pbkdf2Sha1, Md5}

-- no byte is a `$`
abbrev pub HasNoDollar : List ℕ → Type 0
HasNoDollar text = (i : ℕ) → i < length text → slice_index text i ≢ dollar

-- the text is cut at its first `$`
abbrev pub IsCut : List ℕ → List ℕ → List ℕ → Type 0
IsCut text front rest = (text ≡ front ++ dollar ∷ rest) × HasNoDollar front

-- the part before the first `$`, or the whole text
abbrev pub first_part : List ℕ → List ℕ
first_part text = before_first (λ byte. byte == dollar) text

-- what follows the name, where `behind` follows the iterations
abbrev pub front_text : Hasher → List ℕ → List ℕ
front_text (Pbkdf2Sha256 iterations) behind = decimal iterations ++ dollar ∷ behind
front_text (Pbkdf2Sha1 iterations) behind = decimal iterations ++ dollar ∷ behind
front_text Md5 behind = behind

-- the text behind the algorithm's name begins as the hasher says
pub record HasFront (algo : Algo) (rest : List ℕ) (hasher : Hasher) (behind : List ℕ) : Type 0 where
  pub named : algo_of hasher ≡ algo
  pub whole : rest ≡ front_text hasher behind
  pub usable : IsUsable hasher

-- the rest of a text has a salt and a digest of the algorithm
pub record HasSalted (algo : Algo) (rest salt last : List ℕ) : Type 0 where
  pub whole : rest ≡ salt ++ dollar ∷ last
  pub salted : IsSalt salt
  pub digest : IsDigestText algo last

-- the text behind the algorithm's name has these parts
pub record HasRest (algo : Algo) (rest : List ℕ) (hasher : Hasher) (salt last : List ℕ) : Type 0 where
  pub named : algo_of hasher ≡ algo
  pub whole : rest ≡ rest_text hasher salt last
  pub usable : IsUsable hasher
  pub salted : IsSalt salt
  pub digest : IsDigestText algo last
