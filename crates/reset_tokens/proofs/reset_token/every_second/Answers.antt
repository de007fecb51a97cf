use Rattle.std.proofs.Common.{◌≢◌, ◌<◌, ◌∙◌, arith, below_more, get_or-set_other, get_or-set_same, length, length-set}
use Rattle.reset_tokens.proofs.ResetTokenLemmas.{every_second-filled}
use Rattle.reset_tokens.proofs.reset_token.every_second.Goals as goal

pub loop-place-preserved : goal.loop-place-preserved
loop-place-preserved c = record {
  long = length-set c.loop-place.chosen _ _ ∙ c.loop-place.invariant.long;
  filled = below_more _ _
      (λ k lt. let ne : k ≢ c.loop-place.place = omega arith in rw get_or-set_other (c.loop-place.invariant.filled k lt))
      (let lt : c.loop-place.place < length c.loop-place.chosen = omega arith in rw get_or-set_same);
}

pub returns : goal.returns
returns c = every_second-filled c.args.digits.now c.loop-place.chosen c.loop-place.invariant.long (λ k lt. c.loop-place.invariant.filled k (omega (arith, lt)))
