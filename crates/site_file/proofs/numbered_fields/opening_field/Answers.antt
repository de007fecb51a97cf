use Rattle.std.proofs.Common.{subst, sym, Err, ap}
use Rattle.site_file.specs.OpeningForm.{IsOpeningOf}
use Rattle.site_file.proofs.numbered_fields.opening_field.Goals as goal

pub returns-in-Err-clause-wrong : goal.returns-in-Err-clause-wrong
returns-in-Err-clause-wrong c = λ field is.
    let w = c.numbered.ensures field (cc is) in
    (w.1, λ opening said. c.in-Err.ensures.form (ap Err w.0) opening (subst (λ v. IsOpeningOf c.args.keys c.args.backends.now v opening) (sym c.get.ensures) said))
