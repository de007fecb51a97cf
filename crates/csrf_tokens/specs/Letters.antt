-- The letters of secrets and tokens: Django's CSRF_ALLOWED_CHARS, letters and digits of ASCII.
use Rattle.std.specs.Prelude.{ℕ, ◌==◌, ◌+◌, ◌-◌, ◌%◌, nat_eq, Bool, List, All, Contains, position, unwrap_or, slice_index}
use Rattle.std.specs.List.{list_all, list_any}
use Rattle.crypto_text.specs.Alphabet.{letters62}

-- the letter that counts as n
unfoldable pub letter_at : ℕ → ℕ
letter_at n = slice_index letters62 n

-- what a letter counts as; 62 for any other byte
unfoldable pub index_of : ℕ → ℕ
index_of c = unwrap_or (position (λ letter. letter == c) letters62) 62

-- the letter that two letters add up to, counted in a circle of 62
unfoldable pub sum_of : ℕ → ℕ → ℕ
sum_of a b = letter_at ((index_of a + index_of b) % 62)

-- the letter to which `b` is added where the sum is `sum`, counted in a circle of 62
unfoldable pub difference_of : ℕ → ℕ → ℕ
difference_of sum b = letter_at ((index_of sum + 62 - index_of b) % 62)

-- the byte is one of the letters
unfoldable pub IsLetter : ℕ → Type 0
IsLetter c = Contains letters62 c

-- every byte of the text is a letter
abbrev pub AreLetters : List ℕ → Type 0
AreLetters text = All IsLetter text

-- the same as a test of a byte
unfoldable pub is_letter : ℕ → Bool
is_letter c = list_any (nat_eq c) letters62

-- the same as a test of a text
unfoldable pub are_letters : List ℕ → Bool
are_letters text = list_all is_letter text
