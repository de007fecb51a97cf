use Rattle.std.proofs.Common.{◌≡◌, drop, fold}
use Rattle.std.specs.Cmp.Lexicographic.{slice_cmp}
use Rattle.std.specs.Ordering.{nat_cmp}
use Rattle.ledger_rows.specs.Tables.{sorted_sessions}
use Rattle.ledger_rows.specs.declared.rows.SessionRow.{SessionRow}
use Rattle.keepers.specs.SortedRows.{put_by}
use Rattle.keepers.proofs.memory_tables.sorted_sessions.Given as goal

-- the rows to come, put in one by one, make it whole
abbrev pub invariant-loop-row : goal.invariant-loop-row
invariant-loop-row l = fold (put_by (λ (a b : SessionRow). slice_cmp nat_cmp a.key b.key)) l.sessions.items (drop l.row-index l.rows) ≡ sorted_sessions l.rows
