use Rattle.std.proofs.Common.{◌≡◌, ◌+◌, ◌%◌, ◌^◌, ℕ, ap, sym, ◌∙◌, refl, rules, arith}
use Rattle.rand_chacha.specs.ChaCha.{ChaCha, word_at as chacha_word_at, key_of}
use Rattle.outside.specs.RandomWords.{RandomWords, after_words, position_after}
use Rattle.outside.proofs.Positions.{position_after-add, words_from-nothing, words_from-shown}
use Rattle.outside.proofs.chacha_words.ChaChaWordsWords.ahead.Goals as goal

pub loop-at-init : goal.loop-at-init
loop-at-init c =
    let set : ChaCha = c.set_word_pos.new.self in
    record {
      count = refl;
      shown = sym (words_from-nothing _);
      key = ap (λ (g : ChaCha). g.key) (c.set_word_pos.ensures) ∙ ap (λ (g : ChaCha). g.key) c.set_stream.ensures ∙ ap (λ (g : ChaCha). g.key) c.from_seed-rng.ensures;
      stream = ap (λ (g : ChaCha). g.stream) c.set_word_pos.ensures ∙ ap (λ (g : ChaCha). g.stream) c.set_stream.ensures;
      position =
          let at : set.word_pos ≡ position_after c.args.self.now.position c.args.offset =
          ap (λ (g : ChaCha). g.word_pos) c.set_word_pos.ensures ∙ ap (λ n. (c.args.self.now.position + n) % 2 ^ 68) c.from.ensures in
          omega (arith, at);
    }

pub loop-at-preserved : goal.loop-at-preserved
loop-at-preserved c =
    let kept = c.loop-at.invariant in
    let now : ChaCha = c.next_word.new.self in
    let seen : RandomWords = record { position = c.args.self.now.position; word_at = chacha_word_at 10 (key_of c.args.self.now.seed) c.args.self.now.stream } in
    let drawn : c.next_word.result ≡ chacha_word_at 10 c.loop-at.rng.key c.loop-at.rng.stream c.loop-at.rng.word_pos = ap (λ (p : ℕ × ChaCha). p.0) c.next_word.ensures in
    record {
      count = search rules;
      shown = words_from-shown (after_words seen c.args.offset) c.loop-at.shown c.loop-at.at c.next_word.result (omega (arith, kept.count, c.loop-at-test.true)) kept.shown
          (drawn ∙ ap (λ key. chacha_word_at 10 key c.loop-at.rng.stream c.loop-at.rng.word_pos) kept.key
          ∙ ap (λ stream. chacha_word_at 10 (key_of c.args.self.now.seed) stream c.loop-at.rng.word_pos) kept.stream
          ∙ ap (λ position. chacha_word_at 10 (key_of c.args.self.now.seed) c.args.self.now.stream position) kept.position);
      key = ap (λ (p : ℕ × ChaCha). p.1.key) c.next_word.ensures ∙ kept.key;
      stream = ap (λ (p : ℕ × ChaCha). p.1.stream) c.next_word.ensures ∙ kept.stream;
      position = ap (λ (p : ℕ × ChaCha). p.1.word_pos) c.next_word.ensures ∙ ap (λ position. position_after position 1) kept.position
          ∙ position_after-add (position_after c.args.self.now.position c.args.offset) c.loop-at.at 1;
    }
