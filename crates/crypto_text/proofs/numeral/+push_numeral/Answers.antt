use Rattle.std.proofs.Common.{◌≤◌, length, arith}
use Rattle.std.proofs.lemmas.List.{append_assoc}
use Rattle.crypto_text.specs.Numeral.{digits_in}
use Rattle.crypto_text.proofs.NumeralLemmas.{IsDigitTable-digits_in}
use Rattle.crypto_text.proofs.NumeralWriting.{numeral_of-large, numeral_of-small}
use Rattle.crypto_text.proofs.numeral.+push_numeral.Goals as goal

pub returns-then-n-size : goal.returns-then-n-size
returns-then-n-size t c = rw (numeral_of-small (digits_in c.args.base) c.args.n (IsDigitTable-digits_in c.args.base).many (omega arith)) c.push_digit.ensures

pub returns : goal.returns
returns t c =
    let base = c.size-size.ensures.value in
    let large : length (digits_in c.args.base) ≤ c.args.n = omega arith in
    rw (numeral_of-large (digits_in c.args.base) c.args.n (IsDigitTable-digits_in c.args.base).many large, ← base, ← append_assoc, ← c.in_ok-push_numeral.ensures)
    c.push_digit-2.ensures
