-- The state of a ledger: the tables, which its keeper holds, and the rows of its cache. This project's own.
use Rattle.std.specs.Prelude.{List, []}
use Rattle.ledger_rows.specs.Tables.{Tables, opening_tables}
use Rattle.ledger_rows.specs.declared.rows.Engine.{Engine}
use Rattle.ledger_rows.specs.declared.rows.Opening.{Opening}
use Rattle.ledger_rows.specs.declared.rows.SessionRow.{SessionRow}

pub record State : Type 0 where
  pub tables : Tables
  -- empty where sessions are kept in the tables
  pub cache : List SessionRow

-- the state in which a new store begins
abbrev pub opening_state : Opening → State
opening_state opening = record { tables = opening_tables opening; cache = [] }

-- the sessions that an engine sees: those of the tables, since `Db` is the only engine so far
abbrev pub rows_of : Engine → State → List SessionRow
rows_of engine state = state.tables.sessions
