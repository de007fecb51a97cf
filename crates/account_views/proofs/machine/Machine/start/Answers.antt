use Rattle.std.proofs.Common.{sym, subst}
use Rattle.crypto_text.specs.Moment.{IsMoment}
use Rattle.account_views.proofs.LawLemmas.{script_of-few}
use Rattle.account_views.proofs.ProperScripts.{HasTexts, basis_of-proper, begun_of-texts, script_of-proper}
use Rattle.account_views.proofs.machine.Machine.start.Goals as goal

pub returns-clause-few : goal.returns-clause-few
returns-clause-few c = λ words. script_of-few _ c.in_ok-begun.begun

pub returns-clause-proper : goal.returns-clause-proper
returns-clause-proper c = λ words are.
    script_of-proper _ c.in_ok-begun.begun (basis_of-proper _ _ words (subst IsMoment (sym c.of_seconds.ensures) c.requires.moment) c.requires.usable are) c.in_ok-begun.ensures.status
    (subst HasTexts (sym c.in_ok-begun.ensures.value) (begun_of-texts c.args.settings.now c.args.request.now))
