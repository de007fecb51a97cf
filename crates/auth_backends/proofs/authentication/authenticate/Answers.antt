use Rattle.std.proofs.Common.{subst}
use Rattle.std.specs.Option.{option_copied}
use Rattle.auth_backends.specs.Authentication.{IsAnswer}
use Rattle.auth_backends.proofs.AuthenticationLemmas.{answer_of_is_answer, one_answer}
use Rattle.auth_backends.proofs.authentication.authenticate.Goals as goal

pub returns-clause-is : goal.returns-clause-is
returns-clause-is c = λ answer.
    let given = IsAnswer (option_copied c.args.row) c.args.password.now c.args.cfg.now in (
      λ is. subst given is c.answer_to.ensures,
      λ holds. one_answer (option_copied c.args.row) c.args.password.now c.args.cfg.now _ answer c.answer_to.ensures holds,
    )

pub returns-clause-value : goal.returns-clause-value
returns-clause-value c = one_answer (option_copied c.args.row) c.args.password.now c.args.cfg.now _ _ c.answer_to.ensures
    (answer_of_is_answer (option_copied c.args.row) c.args.password.now c.args.cfg.now)
