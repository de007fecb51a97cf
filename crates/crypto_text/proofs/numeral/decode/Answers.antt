use Rattle.std.proofs.Common.{◌<◌, Contains, get_or, length, arith, sym, ◌∙◌}
use Rattle.std.proofs.lemmas.Bool.{eqb-false}
use Rattle.std.proofs.lemmas.List.Elements.{All-more, All-nil}
use Rattle.crypto_text.specs.Numeral.{digits_in}
use Rattle.crypto_text.proofs.NumeralLemmas.{IsDigitTable-digits_in, value_of-nil}
use Rattle.crypto_text.proofs.NumeralReading.{IsNumeral-not_digit, IsNumeral-too_large, position-None, position-Some, read_whole, refused, value_of-more}
use Rattle.crypto_text.proofs.numeral.decode.Goals as goal

pub loop-byte-init : goal.loop-byte-init
loop-byte-init c = record { digits = All-nil (Contains (digits_in c.args.base)); small = omega arith; value = sym (value_of-nil (digits_in c.args.base)) }

pub returns-in_err-digit : goal.returns-in_err-digit
returns-in_err-digit c = λ n. refused _ n c.from_residual.ensures (λ p.
    IsNumeral-not_digit (digits_in c.args.base) _ c.loop-byte.byte-index n c.loop-byte-test.true
    (position-None _ _ (sym c.value_of.ensures ∙ c.in_err-digit.was)) (rw (← c.as_bytes-byte-items.ensures.value) at p.0))

pub returns-in_err-checked_mul : goal.returns-in_err-checked_mul
returns-in_err-checked_mul c = λ n. refused _ n c.from_residual-in_err-checked_mul.ensures (λ p.
    let wraps = rw c.in_err-checked_mul.was at c.checked_mul.ensures in
    IsNumeral-too_large (digits_in c.args.base) _ c.loop-byte.byte-index n c.loop-byte.value c.size.result (IsDigitTable-digits_in c.args.base).many
    c.loop-byte-test.true c.loop-byte.invariant.value c.size.ensures.value (λ fits. wraps (omega arith)) (rw (← c.as_bytes-byte-items.ensures.value) at p.0) p.1)

pub returns-in_err-value : goal.returns-in_err-value
returns-in_err-value c = λ n. refused _ n c.from_residual-in_err-value.ensures (λ p.
    let s = c.as_bytes-byte-items.result.now in
    let wraps = rw c.in_err-value.was at c.checked_add.ensures in
    let product = rw c.in_ok-checked_mul.was at c.checked_mul.ensures in
    let digit = position-Some (digits_in c.args.base) (get_or s c.loop-byte.byte-index 0) c.in_ok-digit.digit (sym c.value_of.ensures ∙ c.in_ok-digit.was) in
    IsNumeral-too_large (digits_in c.args.base) s c.loop-byte.byte-index n c.loop-byte.value c.size.result (IsDigitTable-digits_in c.args.base).many
    c.loop-byte-test.true c.loop-byte.invariant.value c.size.ensures.value (λ fits. wraps (omega (arith, product.1, digit.1))) (rw (← c.as_bytes-byte-items.ensures.value) at p.0) p.1)

pub loop-byte-preserved : goal.loop-byte-preserved
loop-byte-preserved c =
    let s = c.as_bytes-byte-items.result.now in
    let digit = position-Some (digits_in c.args.base) (get_or s c.loop-byte.byte-index 0) c.in_ok-digit.digit (sym c.value_of.ensures ∙ c.in_ok-digit.was) in
    let product = rw c.in_ok-checked_mul.was at c.checked_mul.ensures in
    let sum = rw c.in_ok-value.was at c.checked_add.ensures in
    record {
      digits = All-more (Contains (digits_in c.args.base)) s c.loop-byte.byte-index 0 c.loop-byte-test.true c.loop-byte.invariant.digits digit.0;
      small = omega (arith, sum.0, sum.1);
      value = value_of-more (digits_in c.args.base) s c.loop-byte.byte-index c.loop-byte.value c.size.result c.in_ok-digit.digit c.in_ok-value.value
          c.loop-byte-test.true c.loop-byte.invariant.value c.size.ensures.value digit.1 (omega (arith, product.1, sum.1));
    }

pub returns : goal.returns
returns c = λ n.
    let s = c.as_bytes-byte-items.result.now in
    let empty = sym c.is_empty.ensures ∙ c.if-is_empty.false in
    let some : 0 < length s = omega (arith, eqb-false (length c.args.text.now) 0 empty, c.as_bytes-byte-items.ensures.len) in
    rw (← c.as_bytes-byte-items.ensures.value)
    (read_whole (digits_in c.args.base) s c.loop-byte.byte-index c.loop-byte.value some c.loop-byte-test.false c.loop-byte.invariant.digits c.loop-byte.invariant.value
    c.loop-byte.invariant.small n)
