use Rattle.std.proofs.Common.{◌≡◌, ◌⊎◌, ℕ, ◌<◌, Bool, false, length, arith, subst}
use Rattle.std.proofs.lemmas.Bool.Decides.{nat_tests}
use Rattle.std.proofs.lemmas.Result.{err_from_is_err_and, IfErr-at_err, IfOk-at_ok}
use Rattle.outside.specs.Devices.{HasEnded}
use Rattle.http_edge.specs.Stream.{IsBegun}
use Rattle.http_edge.specs.declared.request.EdgeFault.{EdgeFault}
use Rattle.http_edge.specs.declared.request.EdgeFault.TheVariants.{ReadFault, Memory}
use Rattle.http_edge.proofs.Reading.{begun_cut, begun_fault}
use Rattle.http_edge.proofs.pieces.find_head.Goals as goal

pub returns-in_err-more-clause-found : goal.returns-in_err-more-clause-found
returns-in_err-more-clause-found g c =
    let begun : IsBegun c.looks.bytes.items = subst IsBegun c.deref.ensures.value (rw c.in_default.is at c.in_ok-found.ensures) in
    let kind = IfErr-at_err (λ (e : EdgeFault). (e ≡ ReadFault) ⊎ (e ≡ Memory)) c.in_err-more.was c.looks.invariant.faults in
    let p = err_from_is_err_and c.from_residual-in_err-more.result c.from_residual-in_err-more.ensures.1 in
    rw (p.1, p.2) (begun_fault c.looks.bytes.items (g.S.Source.seen c.looks.source) c.in_err-more.field-0.0 kind begun)

pub returns-then-not-branch-clause-found : goal.returns-then-not-branch-clause-found
returns-then-not-branch-clause-found g c =
    let begun : IsBegun c.looks.bytes.items = subst IsBegun c.deref.ensures.value (rw c.in_default.is at c.in_ok-found.ensures) in
    let some : 0 < length c.looks.bytes.items = grind (arith, nat_tests, c.is_empty.ensures) in
    let ended = IfOk-at_ok (λ (more : Bool). more ≡ false → HasEnded (g.S.Source.seen c.looks.source)) c.in_ok-more.was c.looks.invariant.ended in
    (begun_cut c.looks.bytes.items begun some, ended c.if-not-branch.true)
