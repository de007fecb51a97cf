use Rattle.std.proofs.Common.{◌≡◌, ◌∙◌, ◌++◌, Err, ap}
use Rattle.std.proofs.lemmas.Result.{err_from_is_err_and}
use Rattle.signing_core.specs.declared.signed_cookie.CookieFault.TheVariants.{Timed}
use Rattle.signing_core.specs.SignedCookie.{cookie_prefix}
use Rattle.signing_core.proofs.signed_cookie.unsign_cookie.Goals as goal

pub returns-in_err-value : goal.returns-in_err-value
unfolding cookie_prefix
returns-in_err-value c =
    let told = c.in_err-value.ensures in
    let salt : c.as_str.result.now ≡ c.args.name.now ++ c.args.salt.now = c.as_str.ensures ∙ c.in_ok-salt.ensures in
    let p = err_from_is_err_and c.from_residual-in_err-value.result c.from_residual-in_err-value.ensures.1 in
    rw (p.1, p.2, ← salt) (record {
      value = λ other value. (λ is. absurd is, λ current. absurd ((told.value value).1 current));
      timed = λ other fault. (
        λ is. let same : c.in_err-value.field-0.0 ≡ fault = cc in (told.faults fault).0 (ap Err same),
        λ has. let is = (told.faults fault).1 has in let same : c.in_err-value.field-0.0 ≡ fault = cc in ap (λ f. Err (Timed f)) same,
      );
    })

pub returns : goal.returns
unfolding cookie_prefix
returns c =
    let told = c.in_ok-value.ensures in
    let salt : c.as_str.result.now ≡ c.args.name.now ++ c.args.salt.now = c.as_str.ensures ∙ c.in_ok-salt.ensures in
    rw (← salt) (record {
      value = λ other value. told.value value;
      timed = λ other fault. (λ is. absurd (cc), λ has. absurd (let is = (told.faults fault).1 has in cc));
    })
