use Rattle.signing_core.proofs.SignatureLemmas.{timed_has_colon, timed_is_cut}
use Rattle.signing_core.proofs.colon.timed_parts.Goals as goal

pub returns-in_err-value : goal.returns-in_err-value
returns-in_err-value c = rw c.from_residual.ensures (λ value time timed. c.in_err-value.ensures (timed_has_colon _ _ _ timed))

pub returns-in_err-time : goal.returns-in_err-time
returns-in_err-time c =
    rw c.from_residual-in_err-time.ensures
    (λ value time timed.
    let number = timed_is_cut _ _ _ _ _ c.in_ok-value.ensures timed in
    let some = (c.b62_decode.ensures time).1 number in
    absurd (let none = c.in_err-time.was in cc))

pub returns : goal.returns
returns c =
    let number = (c.b62_decode.ensures c.in_ok-time.time).0 c.in_ok-time.was in
    record {
      digits = c.in_ok-value.digits.now;
      rest_is = c.in_ok-value.ensures.whole;
      numeral = number.0;
      fits = number.1;
    }
