use Rattle.std.proofs.Common.{◌≡◌, drop}
use Rattle.ledger_rows.specs.Tables.{session_of}
use Rattle.keepers.proofs.memory_tables.found_session.Given as goal

-- the session is among those to come
abbrev pub invariant-loop-session : goal.invariant-loop-session
invariant-loop-session l = session_of (drop l.session-index l.sessions) l.key ≡ session_of l.sessions l.key
