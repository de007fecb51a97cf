use Rattle.std.proofs.Common.{rules, take, ◌++◌}
use Rattle.outside.proofs.Calls.{read_more, read_then_failed, of_refusal}
use Rattle.outside.proofs.source.read_up_to.Goals as goal

pub returns-in_err-count-clause-err : goal.returns-in_err-count-clause-err
returns-in_err-count-clause-err g c =
    of_refusal c.from_residual.result (
      c.loop-piece.bytes.items,
      read_then_failed _ _ _ c.loop-piece.bytes.items c.loop-piece.invariant.reads (search rules),
    )

pub returns-in_err-extend_from_slice-clause-err : goal.returns-in_err-extend_from_slice-clause-err
returns-in_err-extend_from_slice-clause-err g c =
    let piece = take c.in_ok-count.count c.read.new.buf in
    of_refusal c.from_residual-in_err-extend_from_slice.result (
      c.loop-piece.bytes.items ++ piece,
      read_more _ _ _ c.loop-piece.bytes.items piece c.loop-piece.invariant.reads c.in_ok-count.ensures.ok,
    )
