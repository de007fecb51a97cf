-- What a machine stands for: the steps that are left once the next reply is there.
use Rattle.std.specs.Prelude.{◌≡◌, [], Option, Some, unwrap_or}
use Rattle.outside.specs.RandomWords.{RandomWords}
use Rattle.http_edge.specs.declared.response.Response.{Response}
use Rattle.ledger_rows.specs.declared.reply.Reply.{Reply}
use Rattle.ledger_rows.specs.declared.reply.Reply.TheVariants.{Booted}
use Rattle.middleware_chain.specs.Page.{plain_page}
use Rattle.middleware_chain.specs.declared.settings.Settings.{Settings}
use Rattle.account_views.specs.Basis.{Basis, basis_of}
use Rattle.account_views.specs.Handler.{after_load, script_of}
use Rattle.account_views.specs.Script.{Steps, Return, Ask, and_then}
use Rattle.account_views.specs.SessionWrite.{write_left, written}
use Rattle.account_views.specs.View.{view_left}
use Rattle.account_views.specs.declared.facts.Facts.{Facts}
use Rattle.account_views.specs.declared.machine.Machine.{Machine}
use Rattle.account_views.specs.declared.machine.Next.{Next}
use Rattle.account_views.specs.declared.machine.Next.TheVariants.{Step, Done}
use Rattle.account_views.specs.declared.machine.Stage.{Stage}
use Rattle.account_views.specs.declared.machine.Stage.TheVariants.{Started, Loading, Viewing, Writing, Ended}

-- a request at its end has no more to say
abbrev pub spent_response : Facts → Response
spent_response facts = plain_page 500 [] facts.delivery

-- what each stage means
abbrev pub stage_left : Basis → Stage → Reply → Steps Response
stage_left basis (Started begun) reply = script_of basis begun
stage_left basis (Loading came call) reply = after_load basis came call reply
stage_left basis (Viewing stage) reply = and_then (view_left basis stage reply) (written basis)
stage_left basis (Writing stage) reply = write_left basis stage reply
stage_left basis Ended reply = Return (spent_response basis.facts)

-- what is left of a machine that is called with this reply; the first call has none, and there a reply says nothing
abbrev pub left : Settings → RandomWords → Machine → Option Reply → Steps Response
left settings words machine reply = stage_left (basis_of settings machine.facts words) machine.stage (unwrap_or reply (Booted 0))

-- what an answer of the machine stands for, with the machine as it is after it
abbrev pub steps_of_next : Settings → RandomWords → Machine → Next → Steps Response
steps_of_next settings words machine (Step op) = Ask op (λ reply. left settings words machine (Some reply))
steps_of_next settings words machine (Done response) = Return response

-- the request has no more steps, and no response
abbrev pub IsEnded : Machine → Type 0
IsEnded machine = machine.stage ≡ Ended

-- with its response a request is at its end
abbrev pub EndsWhereDone : Machine → Next → Type 0
EndsWhereDone machine (Step op) = Unit {0}
EndsWhereDone machine (Done response) = IsEnded machine
