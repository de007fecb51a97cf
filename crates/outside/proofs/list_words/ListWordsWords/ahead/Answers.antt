use Rattle.std.proofs.Common.{◌≡◌, ◌+◌, ◌%◌, ◌^◌, ap, sym, ◌∙◌, refl, rules, arith}
use Rattle.outside.specs.RandomWords.{RandomWords, after_words, listed_word, position_after}
use Rattle.outside.proofs.Positions.{words_from-nothing, words_from-shown}
use Rattle.outside.proofs.list_words.ListWordsWords.ahead.Goals as goal

pub loop-at-init : goal.loop-at-init
loop-at-init c = record { count = refl; shown = sym (words_from-nothing _) }

pub loop-at-preserved : goal.loop-at-preserved
loop-at-preserved c =
    let kept = c.loop-at.invariant in
    let seen : RandomWords = record { position = c.args.self.now.position; word_at = listed_word c.args.self.now.words c.args.self.now.rest } in
    let at : (c.args.self.now.position + c.from.result + c.loop-at.at) % 2 ^ 68 ≡ position_after (position_after c.args.self.now.position c.args.offset) c.loop-at.at =
    omega (arith, c.from.ensures) in
    record {
      count = search rules;
      shown = words_from-shown (after_words seen c.args.offset) c.loop-at.shown c.loop-at.at c.word_of.result (omega (arith, kept.count, c.loop-at-test.true)) kept.shown
          (c.word_of.ensures ∙ ap (λ words. listed_word words c.args.self.now.rest ((c.args.self.now.position + c.from.result + c.loop-at.at) % 2 ^ 68)) c.items.ensures ∙ ap (listed_word c.args.self.now.words c.args.self.now.rest) at);
    }
