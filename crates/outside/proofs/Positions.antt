-- Positions of words, which go round in a circle, and the words that are drawn from them.
use Rattle.std.proofs.Common.{◌≡◌, ◌<◌, ◌≤◌, ◌+◌, ◌-◌, ◌^◌, ℕ, zero, suc, List, [], ◌∷◌, ◌++◌, length, slice_index, slice_range, take, drop, set, refl, sym, ap, ◌∙◌, add-one, add-zero, append-nil, append_assoc, length-append, inl, inr, arith}
use Rattle.std.proofs.Math.ListN.{get_or-append}
use Rattle.std.proofs.lemmas.List.{take_more_set}
use Rattle.std.proofs.Math.Nat.{eq-or-lt_of_le}
use Rattle.std.proofs.Math.Seq.{drop-append_seam, get_or-append_seam, take-append_seam}
use Rattle.outside.specs.RandomWords.{RandomWords, position_after, after_words, next_word, words_from}

-- a position is where it is
pub position_after-nothing : (position : ℕ) → position < 2 ^ 68 → position_after position 0 ≡ position
position_after-nothing position below = omega arith

-- so many words further on, and then so many more
pub position_after-add : (position a b : ℕ) → position_after (position_after position a) b ≡ position_after position (a + b)
position_after-add position a b = omega arith

-- no word was drawn
pub after_words-nothing : (words : RandomWords) → words.position < 2 ^ 68 → after_words words 0 ≡ words
after_words-nothing words below =
    ap (λ (position : ℕ). let same : RandomWords = record { position = position; word_at = words.word_at } in same)
    (position_after-nothing words.position below)

-- so many words were drawn, and then so many more
pub after_words-add : (words : RandomWords) (a b : ℕ) → after_words (after_words words a) b ≡ after_words words (a + b)
after_words-add words a b =
    ap (λ (position : ℕ). let same : RandomWords = record { position = position; word_at = words.word_at } in same)
    (position_after-add words.position a b)

-- no word was drawn
pub words_from-nothing : (words : RandomWords) → words_from words 0 ≡ []
unfolding words_from
words_from-nothing words = refl

-- one more word
pub words_from-one_more : (words : RandomWords) (count : ℕ)
    → words_from words (count + 1) ≡ words_from words count ++ (next_word (after_words words count) ∷ [])
unfolding words_from
words_from-one_more words count = ap (words_from words) (add-one count)

-- where the words so far are shown, one more is
pub words_from-shown : (words : RandomWords) (shown : List ℕ) (at word : ℕ) → at < length shown → take at shown ≡ words_from words at
    → word ≡ words.word_at (position_after words.position at) → take (at + 1) (set shown at word) ≡ words_from words (at + 1)
words_from-shown words shown at word within so_far is =
    take_more_set shown at word within ∙ ap (λ front. front ++ (word ∷ [])) so_far ∙ ap (λ (w : ℕ). words_from words at ++ (w ∷ [])) is
    ∙ sym (words_from-one_more words at)

-- so many words, and then so many more
pub words_from-add : (words : RandomWords) (a b : ℕ)
    → words_from words (a + b) ≡ words_from words a ++ words_from (after_words words a) b
unfolding words_from
words_from-add words a zero = ap (words_from words) (add-zero a) ∙ sym (append-nil (words_from words a))
words_from-add words a (suc b) =
    let sum : a + suc b ≡ suc (a + b) = omega arith in
    ap (words_from words) sum
    ∙ ap (λ front. front ++ (next_word (after_words words (a + b)) ∷ [])) (words_from-add words a b)
    ∙ ap (λ (w : RandomWords). (words_from words a ++ words_from (after_words words a) b) ++ (next_word w ∷ [])) (sym (after_words-add words a b))
    ∙ append_assoc (words_from words a) (words_from (after_words words a) b) (next_word (after_words (after_words words a) b) ∷ [])

-- as many as were asked for
pub length-words_from : (words : RandomWords) (count : ℕ) → length (words_from words count) ≡ count
unfolding words_from
length-words_from words zero = refl
length-words_from words (suc count) =
    length-append (words_from words count) (next_word (after_words words count) ∷ [])
    ∙ ap (λ n. n + 1) (length-words_from words count) ∙ add-one count

-- the words from one of them on are those that are seen from there
pub slice_range-words_from : (words : RandomWords) (a b n : ℕ) → a + b ≤ n → words_from (after_words words a) b ≡ slice_range (words_from words n) a (a + b)
slice_range-words_from words a b n le =
    let rest = n - (a + b) in
    let first = words_from words a in
    let shown = words_from (after_words words a) b in
    let last = words_from (after_words (after_words words a) b) rest in
    let sum : n ≡ a + (b + rest) = omega (arith, le) in
    let whole : words_from words n ≡ first ++ (shown ++ last) =
    ap (words_from words) sum ∙ words_from-add words a (b + rest) ∙ ap (λ later. first ++ later) (words_from-add (after_words words a) b rest) in
    let at : length first ≡ a = length-words_from words a in
    let count : length shown ≡ a + b - a = let is : length shown ≡ b = length-words_from (after_words words a) b in omega (arith, is) in
    sym (ap (λ all. slice_range all a (a + b)) whole
    ∙ ap (λ k. take (a + b - a) (drop k (first ++ (shown ++ last)))) (sym at) ∙ ap (take (a + b - a)) (drop-append_seam first (shown ++ last))
    ∙ ap (λ k. take k (shown ++ last)) (sym count) ∙ take-append_seam shown last)

-- each is the word at its position
pub slice_index-words_from : (words : RandomWords) (count i : ℕ) → i < count
    → slice_index (words_from words count) i ≡ words.word_at (position_after words.position i)
unfolding words_from
slice_index-words_from words zero i below = absurd (omega arith)
slice_index-words_from words (suc count) i below = elim (eq-or-lt_of_le (let le : i ≤ count = omega arith in le)) [
  | inl last ↦
      let front = words_from words count in
      let word = next_word (after_words words count) in
      let end : i ≡ length front = last ∙ sym (length-words_from words count) in
      ap (slice_index (front ++ (word ∷ []))) end ∙ get_or-append_seam front word [] 0
      ∙ ap (λ (n : ℕ). words.word_at (position_after words.position n)) (sym last)
  | inr earlier ↦
      let front = words_from words count in
      let within : i < length front = omega (arith, length-words_from words count) in
      get_or-append front (next_word (after_words words count) ∷ []) 0 i within ∙ slice_index-words_from words count i earlier
]
