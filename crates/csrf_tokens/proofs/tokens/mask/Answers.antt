use Rattle.std.proofs.Common.{◌≢◌, ◌+◌, ◌<◌, ◌∙◌, length, refl, arith, below_more, get_or-set_other, get_or-set_same}
use Rattle.std.proofs.lemmas.List.{length-set, take-set-le}
use Rattle.csrf_tokens.proofs.TokenLemmas.{Masks-from_halves, length-written, masked-from_halves, take-written}
use Rattle.csrf_tokens.proofs.tokens.mask.Goals as goal

pub loop-i-init : goal.loop-i-init
loop-i-init c = record {
  whole = length-written _ _ c.copy_from_slice.ensures.len refl;
  mask_first = take-written _ _ _ c.copy_from_slice.ensures.len c.copy_from_slice.ensures.after;
  letters = λ k h. absurd (omega arith);
  sums = λ k h. absurd (omega arith);
  values = λ k h. absurd (omega arith);
}

pub loop-i-preserved : goal.loop-i-preserved
loop-i-preserved c =
    let within : 32 + c.loop-i.i < length c.loop-i.token = omega (arith, c.loop-i.invariant.whole) in
    record {
      whole = length-set _ _ _ ∙ c.loop-i.invariant.whole;
      mask_first = take-set-le 32 _ _ _ (omega arith) ∙ c.loop-i.invariant.mask_first;
      letters = below_more _ _
          (λ k h. let other : 32 + k ≢ 32 + c.loop-i.i = omega arith in rw get_or-set_other (c.loop-i.invariant.letters k h))
          (rw get_or-set_same c.sum_of.ensures.letter);
      sums = below_more _ _
          (λ k h. let other : 32 + k ≢ 32 + c.loop-i.i = omega arith in rw get_or-set_other (c.loop-i.invariant.sums k h))
          (rw get_or-set_same c.sum_of.ensures.sum);
      values = below_more _ _
          (λ k h. let other : 32 + k ≢ 32 + c.loop-i.i = omega arith in rw get_or-set_other (c.loop-i.invariant.values k h))
          (rw get_or-set_same c.sum_of.ensures.value);
    }

pub returns-clause-masks : goal.returns-clause-masks
returns-clause-masks c =
    let kept = c.loop-i.invariant in
    Masks-from_halves _ _ _ kept.whole c.told-mask kept.mask_first c.requires.mask_letters
    (λ k lt. kept.letters k (omega arith)) (λ k lt. kept.sums k (omega arith))

pub returns-clause-value : goal.returns-clause-value
returns-clause-value c =
    let kept = c.loop-i.invariant in
    masked-from_halves _ _ _ kept.whole c.told-mask kept.mask_first (λ k lt. kept.values k (omega arith))
