use Rattle.std.proofs.Common.{◌≡◌, length, take}
use Rattle.rand_chacha.specs.ChaCha.{word_at as chacha_word_at, key_of}
use Rattle.outside.specs.RandomWords.{RandomWords, after_words, position_after, words_from}
use Rattle.outside.proofs.chacha_words.ChaChaWordsWords.ahead.Given as goal

abbrev pub invariant-loop-at : goal.invariant-loop-at
invariant-loop-at l =
    let seen : RandomWords = record { position = l.self.position; word_at = chacha_word_at 10 (key_of l.self.seed) l.self.stream } in
    record {
      count : length l.shown ≡ 32;
      shown : take l.at l.shown ≡ words_from (after_words seen l.offset) l.at;
      key : l.rng.key ≡ key_of l.self.seed;
      stream : l.rng.stream ≡ l.self.stream;
      position : l.rng.word_pos ≡ position_after (position_after l.self.position l.offset) l.at;
    }
