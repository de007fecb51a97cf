-- Letters of secrets and tokens are ASCII.
use Rattle.std.proofs.Common.{◌≡◌, ℕ, ◌<◌, List, true, nat_lt, All, refl, sym, subst, arith}
use Rattle.std.specs.Str.{IsUtf8}
use Rattle.std.proofs.lemmas.Bool.{agree_below_at, ltb-true}
use Rattle.std.proofs.lemmas.Str.{IsUtf8-from_ascii}
use Rattle.std.proofs.lemmas.Str.Ascii.{IsAscii-from_all}
use Rattle.std.proofs.lemmas.List.Elements.{All-weaker}
use Rattle.crypto_text.specs.Alphabet.{letters62}
use Rattle.csrf_tokens.specs.Letters.{AreLetters, IsLetter, index_of, letter_at}
use Rattle.csrf_tokens.proofs.LetterLemmas.{index_of-below, letter_at-index_of}

letter-ascii : (n : ℕ) → n < 62 → nat_lt (letter_at n) 128 ≡ true
unfolding letter_at letters62
letter-ascii n below = agree_below_at (λ k. nat_lt (letter_at k) 128) (λ k. true) 62 n refl below

is_ascii : (c : ℕ) → IsLetter c → c < 128
is_ascii c letter =
    let below : nat_lt (letter_at (index_of c)) 128 ≡ true = letter-ascii (index_of c) (index_of-below c letter) in
    subst (λ k. k < 128) (letter_at-index_of c letter) (ltb-true _ _ below)

pub letters_are_text : (text : List ℕ) → AreLetters text → IsUtf8 text
letters_are_text text letters = IsUtf8-from_ascii text (IsAscii-from_all text (All-weaker IsLetter (λ c. c < 128) is_ascii text letters))
