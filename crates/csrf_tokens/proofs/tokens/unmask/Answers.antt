use Rattle.std.proofs.Common.{◌≢◌, ◌<◌, ◌∙◌, length, arith, sym, below_more, get_or-set_other, get_or-set_same}
use Rattle.std.proofs.lemmas.Grind.{same_number_lists}
use Rattle.std.proofs.lemmas.List.{length-set}
use Rattle.std.proofs.lemmas.List.Elements.{All-from_get_or}
use Rattle.csrf_tokens.specs.Letters.{IsLetter}
use Rattle.csrf_tokens.specs.Tokens.{unmasked}
use Rattle.csrf_tokens.proofs.TokenLemmas.{get_or-unmasked, length-unmasked}
use Rattle.csrf_tokens.proofs.tokens.unmask.Goals as goal

pub loop-i-preserved : goal.loop-i-preserved
loop-i-preserved c =
    let within : c.loop-i.i < length c.loop-i.secret = omega (arith, c.loop-i.invariant.whole) in
    record {
      whole = length-set _ _ _ ∙ c.loop-i.invariant.whole;
      letters = below_more _ _
          (λ k h. let other : k ≢ c.loop-i.i = omega arith in rw get_or-set_other (c.loop-i.invariant.letters k h))
          (rw get_or-set_same c.difference_of.ensures.letter);
      sums = below_more _ _
          (λ k h. let other : k ≢ c.loop-i.i = omega arith in rw get_or-set_other (c.loop-i.invariant.sums k h))
          (rw get_or-set_same c.difference_of.ensures.sum);
      values = below_more _ _
          (λ k h. let other : k ≢ c.loop-i.i = omega arith in rw get_or-set_other (c.loop-i.invariant.values k h))
          (rw get_or-set_same c.difference_of.ensures.value);
    }

pub returns-clause-letters : goal.returns-clause-letters
returns-clause-letters c = All-from_get_or IsLetter c.loop-i.secret 0 (λ k h. c.loop-i.invariant.letters k (omega (arith, c.loop-i.invariant.whole)))

pub returns-clause-value : goal.returns-clause-value
returns-clause-value c =
    let whole = c.loop-i.invariant.whole in
    same_number_lists c.loop-i.secret (unmasked c.args.token.now) (whole ∙ sym (length-unmasked c.args.token.now))
    (λ k lt. c.loop-i.invariant.values k (omega (arith, whole)) ∙ sym (get_or-unmasked c.args.token.now k (omega (arith, whole))))
