use Rattle.std.proofs.Common.{◌≡◌, ◌++◌, drop, take}
use Rattle.ledger_rows.specs.UserSteps.{with_id}
use Rattle.session_engines.proofs.users.place_of.Given as goal

-- the id comes after the ids so far
abbrev pub invariant-loop-index : goal.invariant-loop-index
invariant-loop-index l = with_id l.ids l.id ≡ take l.index l.ids ++ with_id (drop l.index l.ids) l.id
