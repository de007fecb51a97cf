-- Random texts of the 62 letters are letters of secrets and tokens, and salts.
use Rattle.std.proofs.Common.{◌≡◌, ◌<◌, ◌≤◌, ◌^◌, ℕ, List, All, drop, length, length-take, slice_range, take, arith}
use Rattle.std.proofs.lemmas.List.{take-take}
use Rattle.std.proofs.lemmas.List.Elements.{All-take}
use Rattle.crypto_text.proofs.AlphabetLemmas.{AreLetters-random_text, length-letters62}
use Rattle.crypto_text.specs.Alphabet.{letters62, random_text}
use Rattle.csrf_tokens.specs.Letters.{AreLetters, IsLetter}
use Rattle.pass_hashers.proofs.LetterLemmas.{random_letters_are_salt}
use Rattle.pass_hashers.specs.PasswordText.{IsSalt}

pub are_letters : (words : List ℕ) → All (λ word. word < 2 ^ 32) words → AreLetters (random_text letters62 words)
unfolding IsLetter
are_letters words below = AreLetters-random_text letters62 words (omega (arith, length-letters62)) below

-- the first 22 of 32 words
pub slice_range-first : (draw : List ℕ) → slice_range (slice_range draw 608 640) 0 22 ≡ slice_range draw 608 630
slice_range-first draw = take-take 22 32 (drop 608 draw) (omega arith)

pub is_salt : (words : List ℕ) → 22 ≤ length words → All (λ word. word < 2 ^ 32) words → IsSalt (random_text letters62 (slice_range words 0 22))
is_salt words enough below =
    let size = length-take 22 words in
    random_letters_are_salt (take 22 words) (omega arith) (omega arith) (All-take (λ word. word < 2 ^ 32) 22 words below)
