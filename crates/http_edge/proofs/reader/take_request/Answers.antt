use Rattle.std.proofs.Common.{◌∙◌, ap, subst}
use Rattle.std.proofs.lemmas.Result.{err_from_is_err_and}
use Rattle.http_edge.specs.Head.{front}
use Rattle.http_edge.specs.Plan.{IsPlan, RefusesHead}
use Rattle.http_edge.specs.Stream.{WaitsForMore}
use Rattle.http_edge.proofs.Answering.{answers, head_refused, plan_stays, plan_short, plan_waits, plan_done}
use Rattle.http_edge.proofs.Reading.{reads_on, fault_waits}
use Rattle.http_edge.proofs.reader.take_request.Goals as goal

pub returns-in_err-found-clause-answer : goal.returns-in_err-found-clause-answer
returns-in_err-found-clause-answer g c =
    let p = err_from_is_err_and c.from_residual.result c.from_residual.ensures.1 in
    rw (p.1, p.2) (answers _ _ _ _ _ _ c.find_head.ensures.reads c.in_err-found.ensures.found)

pub returns-in_err-plan-clause-answer : goal.returns-in_err-plan-clause-answer
returns-in_err-plan-clause-answer g c =
    let p = err_from_is_err_and c.from_residual-in_err-plan.result c.from_residual-in_err-plan.ensures.1 in
    let refuses : RefusesHead (front c.find_head.new.bytes.items) c.in_err-plan.field-0.0 =
    subst (λ first. RefusesHead first c.in_err-plan.field-0.0) (c.first_bytes.ensures.front ∙ ap front c.deref.ensures.value) c.in_err-plan.ensures in
    rw (p.1, p.2) (answers _ _ _ _ _ _ c.find_head.ensures.reads (head_refused _ (g.S.Source.seen c.find_head.new.source) c.in_err-plan.field-0.0 refuses))

pub returns-in_err-fill_to-clause-answer : goal.returns-in_err-fill_to-clause-answer
returns-in_err-fill_to-clause-answer g c =
    let p = err_from_is_err_and c.from_residual-in_err-fill_to.result c.from_residual-in_err-fill_to.ensures.1 in
    let plan : IsPlan (front c.find_head.new.bytes.items) c.in_ok-plan.plan =
    subst (λ first. IsPlan first c.in_ok-plan.plan) (c.first_bytes.ensures.front ∙ ap front c.deref.ensures.value) c.in_ok-plan.ensures in
    let now : IsPlan (front c.fill_to.new.bytes.items) c.in_ok-plan.plan =
    plan_stays c.find_head.new.bytes.items c.fill_to.ensures.reads.taken c.fill_to.new.bytes.items c.in_ok-plan.plan plan c.fill_to.ensures.reads.kept in
    let wait : WaitsForMore c.fill_to.new.bytes.items = plan_waits c.fill_to.new.bytes.items c.in_ok-plan.plan now c.in_err-fill_to.ensures.err in
    rw (p.1, p.2) (answers _ _ _ _ _ _ (reads_on _ _ _ _ _ _ c.find_head.ensures.reads c.fill_to.ensures.reads)
    (fault_waits _ (g.S.Source.seen c.fill_to.new.source) c.in_err-fill_to.field-0.0 c.in_err-fill_to.ensures.faults wait))

pub returns-then-not-branch-clause-answer : goal.returns-then-not-branch-clause-answer
returns-then-not-branch-clause-answer g c =
    let plan : IsPlan (front c.find_head.new.bytes.items) c.in_ok-plan.plan =
    subst (λ first. IsPlan first c.in_ok-plan.plan) (c.first_bytes.ensures.front ∙ ap front c.deref.ensures.value) c.in_ok-plan.ensures in
    let now : IsPlan (front c.fill_to.new.bytes.items) c.in_ok-plan.plan =
    plan_stays c.find_head.new.bytes.items c.fill_to.ensures.reads.taken c.fill_to.new.bytes.items c.in_ok-plan.plan plan c.fill_to.ensures.reads.kept in
    let ended = c.in_ok-fill_to.ensures.ended c.if-not-branch.true in
    answers _ _ _ _ _ _ (reads_on _ _ _ _ _ _ c.find_head.ensures.reads c.fill_to.ensures.reads)
    (plan_short c.fill_to.new.bytes.items c.in_ok-plan.plan now ended.0, ended.1)

pub returns-in_err-finish-clause-answer : goal.returns-in_err-finish-clause-answer
returns-in_err-finish-clause-answer g c =
    let p = err_from_is_err_and c.from_residual-in_err-finish.result c.from_residual-in_err-finish.ensures.1 in
    rw (p.1, p.2) (answers _ _ _ _ _ _ (reads_on _ _ _ _ _ _ c.find_head.ensures.reads c.fill_to.ensures.reads) tt)

pub returns-clause-answer : goal.returns-clause-answer
returns-clause-answer g c =
    let plan : IsPlan (front c.find_head.new.bytes.items) c.in_ok-plan.plan =
    subst (λ first. IsPlan first c.in_ok-plan.plan) (c.first_bytes.ensures.front ∙ ap front c.deref.ensures.value) c.in_ok-plan.ensures in
    let now : IsPlan (front c.fill_to.new.bytes.items) c.in_ok-plan.plan =
    plan_stays c.find_head.new.bytes.items c.fill_to.ensures.reads.taken c.fill_to.new.bytes.items c.in_ok-plan.plan plan c.fill_to.ensures.reads.kept in
    answers _ _ _ _ _ _ (reads_on _ _ _ _ _ _ c.find_head.ensures.reads c.fill_to.ensures.reads)
    (plan_done c.fill_to.new.bytes.items c.finish.new.bytes.items c.in_ok-plan.plan c.in_ok-finish.field-0 now
    (c.in_ok-fill_to.ensures.full c.if-not-branch.false) c.in_ok-finish.ensures.rest c.in_ok-finish.ensures.request)
