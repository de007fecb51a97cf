use Rattle.std.proofs.Common.{◌≡◌, ℕ, ◌+◌, ◌-◌, ◌%◌, inl, inr, get_or, arith, subst, ap, sym, ◌∙◌}
use Rattle.std.proofs.lemmas.Bool.{cases_lt}
use Rattle.std.proofs.lemmas.Grind.{same_number_lists}
use Rattle.std.proofs.lemmas.List.Elements.{All-get_or}
use Rattle.csrf_tokens.specs.Letters.{IsLetter, index_of}
use Rattle.csrf_tokens.proofs.LetterLemmas.{index_of-injective}
use Rattle.csrf_tokens.proofs.TokenLemmas.{same_first_half}
use Rattle.csrf_tokens.proofs.laws.mask_gives_one_token.Goals as goal

pub returns : goal.returns
returns c = λ secret first second same_mask first_masked second_masked.
    same_number_lists first second (first_masked.whole ∙ sym second_masked.whole) (λ k lt.
    elim (cases_lt k 32) [
      | inl before ↦ same_first_half first second k same_mask before
      | inr after ↦
          let i : ℕ = k - 32 in
          let place : 32 + i ≡ k = omega arith in
          let mask_same = same_first_half first second i same_mask (omega (arith, first_masked.whole)) in
          let sums_same = first_masked.sums i (omega (arith, first_masked.whole))
          ∙ ap (λ (m : ℕ). (index_of (get_or secret i 0) + index_of m) % 62) mask_same
          ∙ sym (second_masked.sums i (omega (arith, first_masked.whole))) in
          subst (λ (at : ℕ). get_or first at 0 ≡ get_or second at 0) place
          (index_of-injective _ _
          (All-get_or IsLetter first (32 + i) 0 (omega arith) first_masked.letters)
          (All-get_or IsLetter second (32 + i) 0 (omega (arith, first_masked.whole, second_masked.whole)) second_masked.letters)
          sums_same)
    ])
