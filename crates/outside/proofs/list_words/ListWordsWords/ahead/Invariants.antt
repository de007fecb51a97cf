use Rattle.std.proofs.Common.{◌≡◌, length, take}
use Rattle.outside.specs.RandomWords.{RandomWords, after_words, listed_word, words_from}
use Rattle.outside.proofs.list_words.ListWordsWords.ahead.Given as goal

abbrev pub invariant-loop-at : goal.invariant-loop-at
invariant-loop-at l =
    let seen : RandomWords = record { position = l.self.position; word_at = listed_word l.self.words l.self.rest } in
    record {
      count : length l.shown ≡ 32;
      shown : take l.at l.shown ≡ words_from (after_words seen l.offset) l.at;
    }
