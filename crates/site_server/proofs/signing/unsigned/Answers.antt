use Rattle.std.proofs.Common.{ap, inl, inr, refl, ◌∙◌}
use Rattle.site_server.specs.Command.{refused_line}
use Rattle.site_server.proofs.signing.unsigned.Goals as goal

pub returns-in_ok-with_newline-in-Ok : goal.returns-in_ok-with_newline-in-Ok
returns-in_ok-with_newline-in-Ok c = inl (c.in-Ok.value.now, (c.in-Ok.ensures.value c.in-Ok.value.now).0 refl, c.in_ok-with_newline-in-Ok.ensures, refl)

pub returns-in_ok-refused_line-in-Err : goal.returns-in_ok-refused_line-in-Err
returns-in_ok-refused_line-in-Err c =
    inr (c.in-Err.fault, (c.in-Err.ensures.faults c.in-Err.fault).0 refl, c.in_ok-refused_line-in-Err.ensures ∙ ap refused_line c.code_of.ensures, refl)
