-- The letters of unusable texts are the letters and digits of ASCII.
use Rattle.std.proofs.Common.{◌≡◌, ℕ, ◌<◌, nat_eq, nat_lt, true, length, get_or, refl, sym, ◌∙◌, arith}
use Rattle.std.proofs.lemmas.Bool.{agree_below_at, eqb-true, ltb-true}
use Rattle.std.proofs.lemmas.List.{length-map}
use Rattle.std.proofs.lemmas.List.Elements.{All-contains, All-from_get_or}
use Rattle.std.proofs.lemmas.Map.Views.{Contains-from_any, list_any-from_Contains}
use Rattle.std.specs.Bool.{Decides}
use Rattle.std.specs.Char.{is_ascii_alphanumeric}
use Rattle.std.specs.Cmp.{nat_eq_equiv}
use Rattle.std.specs.List.{list_any}
use Rattle.crypto_text.proofs.AlphabetLemmas.{AreLetters-random_text, length-letters62}
use Rattle.crypto_text.specs.Alphabet.{letter_for, letters62, random_text}
use Rattle.pass_hashers.specs.Laws.{RandomLettersAreSalt}
use Rattle.pass_hashers.specs.PasswordText.{IsLetter, IsSalt, IsSaltByte}

alphanumeric-any : (c : ℕ) → c < 256 → is_ascii_alphanumeric c ≡ list_any (nat_eq c) letters62
unfolding letters62
alphanumeric-any c lt = agree_below_at is_ascii_alphanumeric (λ k. list_any (nat_eq k) letters62) 256 c refl lt

pub alphanumeric-Decides : (c : ℕ) → c < 256 → Decides (is_ascii_alphanumeric c) (IsLetter c)
unfolding IsLetter
alphanumeric-Decides c lt = (
  λ test. Contains-from_any eqb-true c letters62 (sym (alphanumeric-any c lt) ∙ test),
  λ found. alphanumeric-any c lt ∙ list_any-from_Contains nat_eq_equiv c letters62 found,
)

letter-above : (place : ℕ) → place < length letters62 → 47 < get_or letters62 place 0
unfolding letters62
letter-above place lt = ltb-true 47 _ (agree_below_at (λ k. nat_lt 47 (get_or letters62 k 0)) (λ k. true) 62 place refl lt)

letter-below : (place : ℕ) → place < length letters62 → get_or letters62 place 0 < 127
unfolding letters62
letter-below place lt = ltb-true _ 127 (agree_below_at (λ k. nat_lt (get_or letters62 k 0) 127) (λ k. true) 62 place refl lt)

letter-IsSaltByte : (place : ℕ) → place < length letters62 → IsSaltByte (get_or letters62 place 0)
letter-IsSaltByte place lt =
    let above = letter-above place lt in
    let below = letter-below place lt in
    (omega arith, omega arith, λ is_dollar. omega arith)

-- random letters are bytes of a salt, and as many as there are words
pub random_letters_are_salt : RandomLettersAreSalt
unfolding IsSalt
random_letters_are_salt words some most below =
    let letters = AreLetters-random_text letters62 words (omega (arith, length-letters62)) below in
    let count : length (random_text letters62 words) ≡ length words = length-map words (letter_for letters62) in
    let all = All-from_get_or IsSaltByte letters62 0 letter-IsSaltByte in
    (omega (arith, count), omega (arith, count), λ k d lt. All-contains IsSaltByte letters62 _ all (letters k d lt))
