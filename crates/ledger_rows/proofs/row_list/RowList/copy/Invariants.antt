use Rattle.std.proofs.Common.{◌≡◌, ◌++◌, drop}
use Rattle.ledger_rows.proofs.row_list.RowList.copy.Given as goal

-- the rows so far, and behind them those to come, are all
abbrev pub invariant-loop-row : goal.invariant-loop-row
invariant-loop-row g l = l.rows.items ++ drop l.row-index l.row-items ≡ l.row-items
