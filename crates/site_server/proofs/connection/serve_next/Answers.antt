use Rattle.std.proofs.Common.{refl, subst, Ok, Err}
use Rattle.http_edge.specs.Stream.{AnswersTaken}
use Rattle.site_server.specs.Saying.{IsSaidOf}
use Rattle.site_server.proofs.RoundLemmas.{round_answered, round_over, round_refused, round_unread}
use Rattle.site_server.proofs.connection.serve_next.Goals as goal

pub returns-in-Ok-Some : goal.returns-in-Ok-Some
returns-in-Ok-Some g c =
    round_answered c.args.settings.now _ _ c.args.more _ _ _ _ _ _ _ _ _ _ (λ turns. g.S.StepTaker.passed turns c.args.taker.now c.answer-response.new.taker) c.in-Ok-Some.request c.now.result c.moment_of-moment.result _ c.answer-response.result c.closing-closing.result c.say.result
    (subst (λ f. AnswersTaken c.args.reader.now (g.I.Source.seen c.args.input.now) (Ok f) c.read_request.new.reader (g.I.Source.seen c.read_request.new.source)) c.in-Ok-Some.field-0-is c.in-Ok-Some.ensures.reads)
    c.now.ensures c.moment_of-moment.ensures.value refl c.pass.ensures c.answer-response.ensures.driven c.closing-closing.ensures
    (subst (λ shown. IsSaidOf shown (g.O.Sink.seen c.args.output.now) (g.O.Sink.seen c.say.new.output) c.say.result) c.as_ref.ensures.value c.say.ensures)

pub returns-in-Ok-None : goal.returns-in-Ok-None
returns-in-Ok-None g c =
    round_over c.args.settings.now _ _ c.args.more _ _ _ _ _ _ _ (λ turns. g.S.StepTaker.passed turns c.args.taker.now c.args.taker.now) c.over.result (g.met.S.StepTaker.stays c.args.taker.now)
    (subst (λ f. AnswersTaken c.args.reader.now (g.I.Source.seen c.args.input.now) (Ok f) c.read_request.new.reader (g.I.Source.seen c.read_request.new.source)) c.in-Ok-None.field-0-is c.in-Ok-None.ensures.reads)
    c.over.ensures

pub returns-in-Err-ReadFault : goal.returns-in-Err-ReadFault
returns-in-Err-ReadFault g c =
    round_unread c.args.settings.now _ _ c.args.more _ _ _ _ _ _ _ (λ turns. g.S.StepTaker.passed turns c.args.taker.now c.args.taker.now) c.over-in-Err-ReadFault.result (g.met.S.StepTaker.stays c.args.taker.now)
    (subst (λ f. AnswersTaken c.args.reader.now (g.I.Source.seen c.args.input.now) (Err f) c.read_request.new.reader (g.I.Source.seen c.read_request.new.source)) c.in-Err-ReadFault.field-0-is c.in-Err-ReadFault.ensures.reads)
    (c.in-Err-ReadFault.ensures.read_fault (cc)) c.over-in-Err-ReadFault.ensures

pub returns-in-Err : goal.returns-in-Err
returns-in-Err g c =
    round_refused c.args.settings.now _ _ c.args.more _ _ _ _ _ _ _ _ (λ turns. g.S.StepTaker.passed turns c.args.taker.now c.args.taker.now) c.in-Err.fault c.refuse.result (g.met.S.StepTaker.stays c.args.taker.now) c.in-Err.ensures.reads c.refuse.ensures
