use Rattle.std.proofs.Common.{rules, subst, sym, ◌∙◌}
use Rattle.crypto_text.proofs.DecimalLemmas.{BeginsAsDecimal, IsDecimal-begins, decimal_of-None, decimal_of-tells, parsed-decimal_of}
use Rattle.crypto_text.proofs.numeral.decimal_decode.Goals as goal

pub returns-then-not-begins_as_decimal : goal.returns-then-not-begins_as_decimal
returns-then-not-begins_as_decimal c =
    let none = sym (decimal_of-None c.args.text.now (λ n is.
    let begins = c.begins_as_decimal.ensures.1 (subst BeginsAsDecimal (sym c.as_bytes.ensures.value) (IsDecimal-begins _ n is)) in
    search (rules, begins))) in
    record { value = none; number = decimal_of-tells c.args.text.now _ none }

pub returns : goal.returns
returns c =
    let begins = subst BeginsAsDecimal c.as_bytes.ensures.value (c.begins_as_decimal.ensures.0 (search rules)) in
    let read = c.ok.ensures.value ∙ parsed-decimal_of c.args.text.now c.parse.result begins c.parse.ensures.value.0 in
    record { value = read; number = decimal_of-tells c.args.text.now c.ok.result read }
