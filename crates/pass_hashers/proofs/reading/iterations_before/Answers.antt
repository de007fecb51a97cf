use Rattle.std.proofs.Common.{refl}
use Rattle.pass_hashers.proofs.ReadingLemmas.{HasNoDollar-decimal, cut_unique, no_cut}
use Rattle.pass_hashers.proofs.reading.iterations_before.Goals as goal

pub returns-in_err-digits-clause-none : goal.returns-in_err-digits-clause-none
returns-in_err-digits-clause-none c = λ none n behind within e.
    no_cut _ _ _ c.in_err-digits.ensures.cut (e, HasNoDollar-decimal n within)

pub returns-in_err-iterations-clause-none : goal.returns-in_err-iterations-clause-none
returns-in_err-iterations-clause-none c = λ none n behind within e.
    let same = cut_unique _ _ _ _ _ c.in_ok-digits.ensures.cut (e, HasNoDollar-decimal n within) in
    c.in_err-iterations.ensures.none refl n within same.0
