-- How a request went: the steps that were done, each with its reply, and how it ended.
use Rattle.std.specs.Prelude.{◌≡◌, ℕ, ◌+◌, ◌⊎◌, List, [], ◌∷◌, ◌++◌, Option, Some, None}
use Rattle.ledger_rows.specs.declared.entry.Tag.{Tag}
use Rattle.ledger_rows.specs.declared.operation.Op.{Op}
use Rattle.http_edge.specs.declared.request.Request.{Request}
use Rattle.http_edge.specs.declared.response.Response.{Response}
use Rattle.middleware_chain.specs.Page.{full_page, store_page}
use Rattle.account_views.specs.Script.{Steps, Return, Ask}
use Rattle.account_views.specs.Walk.{Event, Leads}
use Rattle.site_server.specs.Turns.{Did, Failed, HadNoRoom, Turn}

pub data Ending : Type 0 where
  -- the request is answered
  Done : Response → Ending
  -- the store failed in its next step
  StoreFailed : Ending
  -- there was no room for its next step
  StoreFull : Ending
  -- out of memory, at any time
  OutOfMemory : Ending

pub record Outcome : Type 0 where
  pub events : List Event
  pub ending : Ending

-- a step is asked for
abbrev pub IsAsking : Steps Response → Type 0
IsAsking (Return response) = ⊥
IsAsking (Ask op rest) = Unit {0}

-- a request may end so where this is left of its script
abbrev pub MayEnd : Steps Response → Ending → Type 0
MayEnd left (Done response) = left ≡ Return response
MayEnd left StoreFailed = IsAsking left
MayEnd left StoreFull = IsAsking left
MayEnd left OutOfMemory = Unit {0}

-- a request with this script may go so: its steps are those that the script asks for by the replies, and it ends where
-- the script does, or before
pub record IsOutcome (script : Steps Response) (outcome : Outcome) : Type 0 where
  pub left : Steps Response
  pub leads : Leads script outcome.events left
  pub ends : MayEnd left outcome.ending

-- the answer to a request that ended so; none where memory was out
abbrev pub answer_of : Request → Ending → Option Response
answer_of r (Done response) = Some response
answer_of r StoreFailed = Some (store_page r)
answer_of r StoreFull = Some (full_page r)
answer_of r OutOfMemory = None

-- who serves: the number of the start and that of the worker
pub record Server : Type 0 where
  pub boot : ℕ
  pub worker : ℕ

-- the tag of a step of a request
abbrev pub tag_of : Server → ℕ → ℕ → Tag
tag_of server number step = record { boot = server.boot; worker = server.worker; request = number; step = step }

-- the steps of a request that were done, numbered from this one on
abbrev pub turns_from : Server → ℕ → ℕ → List Event → List Turn
turns_from server number step [] = []
turns_from server number step (event ∷ events) = Did (tag_of server number step) event.op event.reply ∷ turns_from server number (step + 1) events

-- the step that a request ended with, where it was refused; memory may be out after the refusal, too
abbrev pub IsLastTurn : Ending → List Turn → Type 0
IsLastTurn (Done response) last = last ≡ []
IsLastTurn StoreFailed last = last ≡ Failed ∷ []
IsLastTurn StoreFull last = (op : Op) × (last ≡ HadNoRoom op ∷ [])
IsLastTurn OutOfMemory last = (last ≡ []) ⊎ (last ≡ Failed ∷ []) ⊎ ((op : Op) × (last ≡ HadNoRoom op ∷ []))

-- the turns of a request: its steps, numbered 0, 1, .., and the refused one
pub record AreTurnsOf (server : Server) (number : ℕ) (outcome : Outcome) (turns : List Turn) : Type 0 where
  pub last : List Turn
  pub is_last : IsLastTurn outcome.ending last
  pub all : turns ≡ turns_from server number 0 outcome.events ++ last
