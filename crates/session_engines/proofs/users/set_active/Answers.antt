use Rattle.std.proofs.Common.{◌≡◌, ℕ, List, subst}
use Rattle.ledger_rows.specs.Tables.{user_named}
use Rattle.keepers.specs.Keeper.{OnHolding}
use Rattle.session_engines.proofs.UserLemmas.{active-answer, some_looked, some_sound}
use Rattle.session_engines.proofs.users.set_active.Goals as goal

pub returns-in_ok-changed-in-Some-clause-ok : goal.returns-in_ok-changed-in-Some-clause-ok
returns-in_ok-changed-in-Some-clause-ok g c =
    λ cfg. active-answer cfg (g.K.Keeper.seen c.args.keeper.now) c.in_ok-changed-in-Some.field-0 c.args.name.now c.args.active c.in-Some.row
    c.in_ok-changed-in-Some.ensures.reply c.in_ok-changed-in-Some.ensures.changes
    (some_sound c.in_ok-row.field-0 c.in-Some.row c.in-Some.is c.in_ok-row.ensures.sound)
    (some_looked (g.K.Keeper.seen c.args.keeper.now) (λ tables. user_named tables.users c.args.name.now) c.in_ok-row.field-0 c.in-Some.row c.in-Some.is
    (subst (λ (name : List ℕ). OnHolding (g.K.Keeper.seen c.args.keeper.now).report (λ contents. c.in_ok-row.field-0 ≡ user_named contents.tables.users name)) c.as_str.ensures
    c.in_ok-row.ensures.value))
    c.in_ok-row.ensures.ordered
