use Rattle.std.proofs.Common.{ap, rules, ◌∙◌}
use Rattle.std.proofs.lemmas.Fn.{filter_same}
use Rattle.ledger_rows.specs.UserSteps.{without_id}
use Rattle.session_engines.proofs.users.without_id.Goals as goal

pub returns : goal.returns
returns c =
    c.from_vec.ensures ∙ filter_same _ _ _ (λ x b f' k. search rules) _ _ c.retain.ensures.filtered ∙ ap (λ ids. without_id ids c.args.id) c.into_vec-made.ensures
