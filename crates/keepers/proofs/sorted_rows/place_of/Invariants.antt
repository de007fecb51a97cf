use Rattle.std.proofs.Common.{◌≡◌, ◌++◌, drop, take}
use Rattle.keepers.specs.SortedRows.{put_by}
use Rattle.keepers.proofs.sorted_rows.place_of.Given as goal

-- the row comes after the rows so far
abbrev pub invariant-loop-index : goal.invariant-loop-index
invariant-loop-index g l = put_by g.T.Keyed.cmp_key l.rows l.row ≡ take l.index l.rows ++ put_by g.T.Keyed.cmp_key (drop l.index l.rows) l.row
