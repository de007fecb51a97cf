use Rattle.ledger_rows.specs.Tables.{user_of}
use Rattle.session_engines.proofs.UserLemmas.{repassword-result, some_looked, some_sound}
use Rattle.session_engines.proofs.users.set_password.Goals as goal

pub returns-in-Some-clause-ok : goal.returns-in-Some-clause-ok
returns-in-Some-clause-ok g c =
    λ cfg. repassword-result cfg (g.K.Keeper.seen c.args.keeper.now) (g.K.Keeper.seen c.user_by_id.new.self) c.repassword.result c.args.user c.args.expected.now c.args.fresh.now c.in-Some.row
    c.in_ok-row.ensures.reads c.repassword.ensures.changes c.repassword.ensures.kind
    (some_sound c.in_ok-row.field-0 c.in-Some.row c.in-Some.is c.in_ok-row.ensures.sound) c.requires.fresh
    (some_looked (g.K.Keeper.seen c.args.keeper.now) (λ tables. user_of tables.users c.args.user) c.in_ok-row.field-0 c.in-Some.row c.in-Some.is c.in_ok-row.ensures.value)
    c.in_ok-row.ensures.ordered c.repassword.ensures.reply
