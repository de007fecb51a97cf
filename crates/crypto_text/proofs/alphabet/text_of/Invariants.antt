use Rattle.std.proofs.Common.{◌≡◌, string_bytes, take}
use Rattle.crypto_text.specs.Alphabet.{letters_of, random_text}
use Rattle.crypto_text.proofs.alphabet.text_of.Given as goal

abbrev pub invariant-loop-word : goal.invariant-loop-word
invariant-loop-word l = string_bytes l.text ≡ random_text (letters_of l.alphabet) (take l.word-index l.words)
