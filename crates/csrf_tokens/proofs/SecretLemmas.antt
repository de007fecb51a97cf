-- A token carries one secret, which is read back.
use Rattle.std.proofs.Common.{◌≡◌, ℕ, ◌+◌, ◌%◌, ◌<◌, List, length, get_or, arith, refl, sym, ◌∙◌}
use Rattle.std.proofs.lemmas.Grind.{same_number_lists}
use Rattle.std.proofs.lemmas.List.Elements.{All-get_or}
use Rattle.std.proofs.lemmas.Slice.Eq.{bytes_eq-Decides}
use Rattle.csrf_tokens.specs.Form.{carried_secret}
use Rattle.csrf_tokens.specs.Laws.{MaskedReadsBack, MaskedTokenMatches, TokenHasOneSecret}
use Rattle.csrf_tokens.specs.Letters.{IsLetter, index_of}
use Rattle.csrf_tokens.specs.Tokens.{unmasked}
use Rattle.csrf_tokens.proofs.LetterLemmas.{index_of-below, index_of-injective}
use Rattle.csrf_tokens.proofs.TokenLemmas.{AreLetters-unmasked, Masks-unmasked, length-unmasked}

-- sums below 62 that agree after one term have the other term in common
same_term : (a b m : ℕ) → a < 62 → b < 62 → (a + m) % 62 ≡ (b + m) % 62 → a ≡ b
same_term a b m a_below b_below same = omega arith

pub one_secret : TokenHasOneSecret
one_secret = λ first second token first_long second_long first_letters second_letters first_masked second_masked.
    same_number_lists first second (first_long ∙ sym second_long) (λ k lt.
    let lt32 : k < 32 = omega arith in
    let first_letter = All-get_or IsLetter first k 0 lt first_letters in
    let second_letter = All-get_or IsLetter second k 0 (omega arith) second_letters in
    index_of-injective _ _ first_letter second_letter
    (same_term _ _ (index_of (get_or token k 0)) (index_of-below _ first_letter) (index_of-below _ second_letter)
    (sym (first_masked.sums k lt32) ∙ second_masked.sums k lt32)))

pub masked_reads_back : MaskedReadsBack
masked_reads_back = λ secret token long letters masked.
    one_secret _ _ token (length-unmasked token) long (AreLetters-unmasked token masked.whole masked.letters) letters
    (Masks-unmasked token masked.whole masked.letters) masked

-- a text as long as a secret is its own, and one as long as a token is unmasked
carried_secret-short : (text : List ℕ) → length text ≡ 32 → carried_secret text ≡ text
carried_secret-short text long = rw long refl

carried_secret-long : (text : List ℕ) → length text ≡ 64 → carried_secret text ≡ unmasked text
carried_secret-long text long = rw long refl

pub masked_token_matches : MaskedTokenMatches
masked_token_matches = λ secret token long letters masked.
    let sent = carried_secret-long token masked.whole ∙ masked_reads_back secret token long letters masked in
    (bytes_eq-Decides (carried_secret token) (carried_secret secret)).1 (sent ∙ sym (carried_secret-short secret long))
