use Rattle.ledger_rows.specs.Tables.{user_of}
use Rattle.session_engines.proofs.MailLemmas.{checked-answer}
use Rattle.session_engines.proofs.UserLemmas.{some_looked}
use Rattle.session_engines.proofs.resets.check_reset.Goals as goal

pub returns-clause-ok : goal.returns-clause-ok
returns-clause-ok g c =
    λ cfg. checked-answer cfg (g.K.Keeper.seen c.args.keeper.now) (g.K.Keeper.seen c.user_by_id.new.self) c.unchanged-2.result c.args.user c.args.token.now c.as_str.result.now c.args.now
    c.in-Some.row c.in_ok-keys.keys c.in_ok-reply.reply c.in_ok-row.ensures.reads c.as_str.ensures c.unchanged-2.ensures.reply c.unchanged-2.ensures.changes c.in_ok-reply.ensures.kind
    (some_looked (g.K.Keeper.seen c.args.keeper.now) (λ tables. user_of tables.users c.args.user) c.in_ok-row.field-0 c.in-Some.row c.in-Some.is c.in_ok-row.ensures.value)
    c.in_ok-row.ensures.ordered c.in_ok-keys.ensures.value c.in_ok-reply.ensures.value
