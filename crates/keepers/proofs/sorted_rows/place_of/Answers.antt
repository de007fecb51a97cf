use Rattle.std.proofs.Common.{arith}
use Rattle.keepers.proofs.PlaceLemmas.{row_is_replaced}
use Rattle.keepers.proofs.sorted_rows.place_of.Goals as goal

pub returns-in-Equal-clause-replaced : goal.returns-in-Equal-clause-replaced
returns-in-Equal-clause-replaced g c =
    row_is_replaced g.T.Keyed.cmp_key c.args.rows.now c.args.row.now c.index-rows-index.result c.loop-index.index (omega arith) c.index-rows-index.is
    (cc) c.loop-index.invariant
