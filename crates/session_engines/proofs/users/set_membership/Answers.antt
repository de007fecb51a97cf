use Rattle.std.proofs.Common.{◌≡◌, ℕ, List, subst}
use Rattle.ledger_rows.specs.Tables.{user_named}
use Rattle.keepers.specs.Keeper.{OnHolding}
use Rattle.session_engines.proofs.UserLemmas.{regrouped-answer, some_grouped, some_looked, some_number, some_sound}
use Rattle.session_engines.proofs.users.set_membership.Goals as goal

pub returns-in_ok-regrouped-in-Some-2-clause-ok : goal.returns-in_ok-regrouped-in-Some-2-clause-ok
returns-in_ok-regrouped-in-Some-2-clause-ok g c =
    λ cfg. regrouped-answer cfg (g.K.Keeper.seen c.args.keeper.now) c.in_ok-regrouped-in-Some-2.field-0 c.args.name.now c.args.group.now c.args.member c.in-Some.row c.in-Some-2.id
    c.in_ok-regrouped-in-Some-2.ensures.reply c.in_ok-regrouped-in-Some-2.ensures.changes
    (some_sound c.in_ok-row.field-0 c.in-Some.row c.in-Some.is c.in_ok-row.ensures.sound)
    (some_number c.in_ok-id.field-0 c.in-Some-2.id c.in-Some-2.is c.in_ok-id.ensures.number)
    (some_looked (g.K.Keeper.seen c.args.keeper.now) (λ tables. user_named tables.users c.args.name.now) c.in_ok-row.field-0 c.in-Some.row c.in-Some.is
    (subst (λ (name : List ℕ). OnHolding (g.K.Keeper.seen c.args.keeper.now).report (λ contents. c.in_ok-row.field-0 ≡ user_named contents.tables.users name)) c.as_str.ensures
    c.in_ok-row.ensures.value))
    c.in_ok-row.ensures.ordered
    (some_grouped (g.K.Keeper.seen c.args.keeper.now) (g.K.Keeper.seen c.user_by_name.new.self) c.args.group.now c.in_ok-id.field-0 c.in-Some-2.id c.in_ok-row.ensures.reads c.in-Some-2.is
    c.in_ok-id.ensures.value)
