use Rattle.std.proofs.Common.{◌∙◌, Some, Ok, Err, ap, sym, rules}
use Rattle.std.proofs.lemmas.Fn.{always_returns_same}
use Rattle.ledger_rows.specs.declared.rows.UserRow.{UserRow}
use Rattle.site_file.proofs.IdLemmas.{user_of-searched}
use Rattle.site_file.proofs.session_form.user_of.Goals as goal

pub returns-in-Ok : goal.returns-in-Ok
returns-in-Ok c =
    let by_id = c.in-Ok.ensures.position (λ (row : UserRow). row.id) (always_returns_same _ _ _ (λ a r f' called. search rules)) in
    let found = user_of-searched c.args.users.now c.args.id (Ok c.in-Ok.index) c.requires c.in-Ok.ensures.bound by_id in
    ap Some c.index-users-index.is ∙ sym (found c.index-users-index.result)

pub returns-in-Err : goal.returns-in-Err
returns-in-Err c =
    let by_id = c.in-Err.ensures.position (λ (row : UserRow). row.id) (always_returns_same _ _ _ (λ a r f' called. search rules)) in
    sym (user_of-searched c.args.users.now c.args.id (Err _) c.requires c.in-Err.ensures.bound by_id)
