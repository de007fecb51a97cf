use Rattle.std.proofs.Common.{List, All, ap, filter, rules, subst, sym, ◌∙◌}
use Rattle.std.proofs.lemmas.Fn.{filter_same}
use Rattle.std.proofs.lemmas.List.Elements.{All-filter}
use Rattle.ledger_rows.specs.MailSteps.{is_mailed}
use Rattle.ledger_rows.specs.Rows.{IsSoundUser}
use Rattle.ledger_rows.specs.declared.rows.UserRow.{UserRow}
use Rattle.session_engines.proofs.resets.mailed_users.Goals as goal

pub returns-clause-value : goal.returns-clause-value
returns-clause-value c =
    c.from_vec.ensures ∙ filter_same _ _ _ (λ x b f' k. search rules) _ _ c.retain.ensures.filtered
    ∙ ap (λ (rows : List UserRow). filter is_mailed rows) c.into_vec-rows.ensures

pub returns-clause-sound : goal.returns-clause-sound
returns-clause-sound c =
    subst (λ (rows : List UserRow). All IsSoundUser rows)
    (sym (c.from_vec.ensures ∙ filter_same _ _ _ (λ x b f' k. search rules) _ _ c.retain.ensures.filtered ∙ ap (λ (rows : List UserRow). filter is_mailed rows) c.into_vec-rows.ensures))
    (All-filter is_mailed IsSoundUser _ c.requires)
