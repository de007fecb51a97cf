use Rattle.std.proofs.Common.{rules, take, drop}
use Rattle.std.proofs.Math.Seq.{take-add}
use Rattle.std.proofs.lemmas.List.{take_rest}
use Rattle.outside.proofs.Calls.{write_more}
use Rattle.outside.proofs.sink.write_whole.Goals as goal

pub loop-done-preserved : goal.loop-done-preserved
loop-done-preserved g c =
    let done = c.loop-done.done in
    let count = c.in_ok-done.field-0 in
    let piece = c.args.piece.now in
    record {
      within = search rules;
      writes = rw (take-add done count piece)
          (write_more _ _ _ (take done piece) (take count (drop done piece)) c.loop-done.invariant.writes
          (rw take_rest at c.in_ok-done.ensures.ok));
    }
