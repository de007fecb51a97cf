use Rattle.std.proofs.Common.{ap, refl}
use Rattle.site_server.specs.Command.{Sign, Unsign, asked_by_command}
use Rattle.site_server.proofs.CommandLemmas.{runs_command, runs_signing}
use Rattle.site_server.proofs.site.run.Goals as goal

pub returns-in-SignValue-clause-runs : goal.returns-in-SignValue-clause-runs
returns-in-SignValue-clause-runs g c =
    runs_command c.args.command (Sign c.in-SignValue.salt.now c.in-SignValue.value.now) c.args.site _ _ _ (ap asked_by_command c.in-SignValue.is)
    (runs_signing c.args.site.opening.keys c.in-SignValue.salt.now c.in-SignValue.value.now _ _ _ c.sign-status.ensures.signs refl refl refl)

pub returns-in-UnsignText-clause-runs : goal.returns-in-UnsignText-clause-runs
returns-in-UnsignText-clause-runs g c =
    let unsigns = c.unsign-status.ensures.unsigns in
    runs_command c.args.command (Unsign c.in-UnsignText.salt.now c.in-UnsignText.max_age c.in-UnsignText.text.now) c.args.site _ _ _ (ap asked_by_command c.in-UnsignText.is)
    (record { reading = unsigns.0; clock = unsigns.1; written = unsigns.2; input = refl; words = refl; kept = refl })
