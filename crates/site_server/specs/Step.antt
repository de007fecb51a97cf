-- One turn of a request: a call of its machine, and the step that it asked for.
use Rattle.std.specs.Prelude.{◌≡◌, ℕ, List, [], ◌∷◌, Option}
use Rattle.ledger_rows.specs.declared.entry.Tag.{Tag}
use Rattle.ledger_rows.specs.declared.operation.Op.{Op}
use Rattle.ledger_rows.specs.declared.reply.Reply.{Reply}
use Rattle.http_edge.specs.declared.request.Request.{Request}
use Rattle.http_edge.specs.declared.response.Response.{Response}
use Rattle.account_views.specs.Script.{Steps, Return, Ask}
use Rattle.account_views.specs.Walk.{IsReplyTo}
use Rattle.session_engines.specs.declared.step_fault.StepFault.{StepFault}
use Rattle.session_engines.specs.declared.step_fault.StepFault.TheVariants.{Keeper, Full, Memory}
use Rattle.site_server.specs.Outcome.{AreTurnsOf, Ending, IsLastTurn, IsOutcome, MayEnd, OutOfMemory, Outcome, Server, StoreFailed, StoreFull, answer_of}
use Rattle.site_server.specs.Turns.{Did, Turn}
use Rattle.site_server.specs.declared.driving.Place.{Place}
use Rattle.site_server.specs.declared.driving.Advance.{Advance}
use Rattle.site_server.specs.declared.driving.Advance.TheVariants.{Answered, Refused, Replied}

-- how a request ends whose step was refused
abbrev pub ending_of : StepFault → Ending
ending_of (Keeper before after) = StoreFailed
ending_of Full = StoreFull
ending_of Memory = OutOfMemory

-- this was left of the script, and this is left once the next reply is there
abbrev pub IsAdvance : Steps Response → (Reply → Steps Response) → Tag → (List Turn → Type 0) → Advance → Type 0
IsAdvance left after tag Passed (Answered response) = (left ≡ Return response) × Passed []
IsAdvance left after tag Passed (Refused fault) = MayEnd left (ending_of fault) × ((last : List Turn) × IsLastTurn (ending_of fault) last × Passed last)
IsAdvance left after tag Passed (Replied reply) =
    (op : Op) × (rest : Reply → Steps Response) × (left ≡ Ask op rest) × (after reply ≡ rest reply) × IsReplyTo op reply × Passed (Did tag op reply ∷ [])

-- a request went so, with this answer
pub record IsDriven (script : Steps Response) (server : Server) (number : ℕ) (r : Request) (Passed : List Turn → Type 0) (answer : Option Response) : Type 0 where
  pub outcome : Outcome
  pub is : IsOutcome script outcome
  pub turns : List Turn
  pub turns_are : AreTurnsOf server number outcome turns
  pub passed : Passed turns
  pub answered : answer ≡ answer_of r outcome.ending

-- whose request it is
abbrev pub server_of : Place → Server
server_of place = record { boot = place.boot; worker = place.worker }
