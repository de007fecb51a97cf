use Rattle.std.proofs.Common.{◌≡◌, ◌∙◌, true, sym, subst}
use Rattle.std.proofs.lemmas.Bool.{false≢true}
use Rattle.pass_hashers.specs.PasswordText.{IsDigestText, IsSalt, algo_of}
use Rattle.pass_hashers.proofs.ReadingLemmas.{HasNoDollar-salt, cut_unique, no_cut}
use Rattle.pass_hashers.proofs.reading.salted_parts.Goals as goal

pub returns-in_err-salt-clause-none : goal.returns-in_err-salt-clause-none
returns-in_err-salt-clause-none c = λ none salt last parts.
    no_cut _ _ _ c.in_err-salt.ensures.cut (parts.whole, HasNoDollar-salt salt parts.salted)

pub returns-else-are_in_form-clause-none : goal.returns-else-are_in_form-clause-none
returns-else-are_in_form-clause-none c = λ none salt last parts.
    let same = cut_unique _ _ _ _ _ c.in_ok-salt.ensures.cut (parts.whole, HasNoDollar-salt salt parts.salted) in
    let salted = subst IsSalt (sym same.0) parts.salted in
    let digest = subst (IsDigestText (algo_of c.args.hasher)) (sym same.1) parts.digest in
    let yes : c.are_in_form.result ≡ true = c.are_in_form.ensures.1 (salted, rw c.algo_of.ensures digest) in
    false≢true (sym c.if-are_in_form.false ∙ yes)
