use Rattle.std.proofs.Common.{arith}
use Rattle.std.proofs.lemmas.Str.Pattern.{contains_char}
use Rattle.reset_tokens.specs.ResetToken.{dash}
use Rattle.reset_tokens.proofs.ResetTokenLemmas.{HasNumber-read, HasShape-dash, HasNumber-cut}
use Rattle.crypto_text.proofs.CutLemmas.{Contains-from_index, lacks_by_index}
use Rattle.reset_tokens.proofs.reset_token.number_of.Goals as goal

pub returns-in_err-digits : goal.returns-in_err-digits
returns-in_err-digits c = rw c.from_residual.ensures (λ shape. c.in_err-digits.ensures.cut (HasShape-dash _ shape))

pub returns-then-contains : goal.returns-then-contains
returns-then-contains c = λ shape.
    let found = (contains_char dash c.in_ok-digits.mark.now c.contains.result c.contains.ensures.cases (omega arith)).0 c.if-contains.true in
    (HasNumber-cut _ _ _ _ c.in_ok-digits.ensures.cut shape.1).0 (Contains-from_index dash c.in_ok-digits.mark.now found.0 found.1 found.2)

pub returns : goal.returns
returns c =
    let absent = (contains_char dash c.in_ok-digits.mark.now c.contains.result c.contains.ensures.cases (omega arith)).1 in
    HasNumber-read _ _ _ c.b36_decode.result c.in_ok-digits.ensures.cut
    (lacks_by_index dash c.in_ok-digits.mark.now (λ i lt is. absurd (let found = absent i lt is in cc)))
    c.b36_decode.ensures
