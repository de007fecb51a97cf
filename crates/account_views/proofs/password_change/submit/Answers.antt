use Rattle.account_views.proofs.password_change.submit.Goals as goal

pub returns : goal.returns
returns g c = rw (c.in_ok-fault.ensures, c.last_value-password.ensures, c.items-fields.ensures) at c.checked.ensures
