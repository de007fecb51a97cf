use Rattle.ledger_rows.specs.Tables.{user_of}
use Rattle.session_engines.proofs.UserLemmas.{login-answer, some_looked, some_sound}
use Rattle.session_engines.proofs.users.set_last_login.Goals as goal

pub returns-in_ok-changed-in-Some-clause-ok : goal.returns-in_ok-changed-in-Some-clause-ok
returns-in_ok-changed-in-Some-clause-ok g c =
    λ cfg. login-answer cfg (g.K.Keeper.seen c.args.keeper.now) c.in_ok-changed-in-Some.field-0 c.args.user c.args.now c.in-Some.row
    c.in_ok-changed-in-Some.ensures.reply c.in_ok-changed-in-Some.ensures.changes
    (some_sound c.in_ok-row.field-0 c.in-Some.row c.in-Some.is c.in_ok-row.ensures.sound) c.requires.now
    (some_looked (g.K.Keeper.seen c.args.keeper.now) (λ tables. user_of tables.users c.args.user) c.in_ok-row.field-0 c.in-Some.row c.in-Some.is c.in_ok-row.ensures.value)
    c.in_ok-row.ensures.ordered
