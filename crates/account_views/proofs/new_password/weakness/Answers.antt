use Rattle.std.proofs.Common.{Err, ap, refl, sym}
use Rattle.account_views.proofs.NewPasswordLemmas.{weakness-common, weakness-digits, weakness-none, weakness-short}
use Rattle.account_views.proofs.new_password.weakness.Goals as goal

pub returns-in-Ok : goal.returns-in-Ok
returns-in-Ok c =
    let strong = c.in-Ok.ensures.ok refl in
    sym (weakness-none _ _ strong.0 strong.1 strong.2)

pub returns-in-Err-TooShort : goal.returns-in-Err-TooShort
returns-in-Err-TooShort c = sym (weakness-short _ _ (c.in-Err-TooShort.ensures.short.0 (ap Err c.in-Err-TooShort.field-0-is)))

pub returns-in-Err-AllDigits : goal.returns-in-Err-AllDigits
returns-in-Err-AllDigits c =
    let weak = c.in-Err-AllDigits.ensures.digits.0 (ap Err c.in-Err-AllDigits.field-0-is) in
    sym (weakness-digits _ _ weak.0 weak.1)

pub returns-in-Err-Common : goal.returns-in-Err-Common
returns-in-Err-Common c =
    let weak = c.in-Err-Common.ensures.common (ap Err c.in-Err-Common.field-0-is) in
    sym (weakness-common _ _ weak.0 weak.1 weak.2)
