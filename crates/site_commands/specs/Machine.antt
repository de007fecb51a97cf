-- What a machine stands for: the steps that are left once the next reply is there.
use Rattle.std.specs.Prelude.{◌≡◌, [], Option, None, Some, codes, string_bytes, unwrap_or}
use Rattle.ledger_rows.specs.declared.reply.Reply.{Reply}
use Rattle.ledger_rows.specs.declared.reply.Reply.TheVariants.{Booted}
use Rattle.account_views.specs.Script.{Steps, Return, Ask}
use Rattle.site_commands.specs.CommandScript.{after_adding, after_finding, after_mail, cleared_line, done_by, mailing, said_of, script}
use Rattle.site_commands.specs.ReplyReading.{active_fault, added_id, cleared_count, found_read, key_fault, member_fault, password_fault, taken_mail}
use Rattle.site_commands.specs.declared.machine.Last.{Last}
use Rattle.site_commands.specs.declared.machine.Last.TheVariants.{AddUser, ClearExpired, RetireKeys, RotateKey, SetActive, SetMembership, SetPassword}
use Rattle.site_commands.specs.declared.machine.Machine.{Machine}
use Rattle.site_commands.specs.declared.machine.Next.{Next}
use Rattle.site_commands.specs.declared.machine.Next.TheVariants.{Step, Done}
use Rattle.site_commands.specs.declared.machine.Progress.{Progress}
use Rattle.site_commands.specs.declared.machine.Progress.TheVariants.{Asks, Ends}
use Rattle.site_commands.specs.declared.machine.Stage.{Stage}
use Rattle.site_commands.specs.declared.machine.Stage.TheVariants.{Started, Finding, Ending, Mailing, Ended}
use Rattle.site_commands.specs.declared.said.Said.{Said}

-- what is said by the reply to the last step
abbrev pub last_said : Last → Reply → Said
last_said AddUser reply = after_adding (added_id reply)
last_said SetPassword reply = done_by (codes "changed\n") (password_fault reply)
last_said SetActive reply = done_by (codes "done\n") (active_fault reply)
last_said SetMembership reply = done_by (codes "done\n") (member_fault reply)
last_said ClearExpired reply = said_of (cleared_line (cleared_count reply))
last_said RotateKey reply = done_by (codes "done\n") (key_fault reply)
last_said RetireKeys reply = said_of (codes "done\n")

-- a command at its end has no more to say
abbrev pub spent : Said
spent = said_of []

-- what each stage means
abbrev pub stage_left : Stage → Reply → Steps Said
stage_left (Started task) reply = script task
stage_left (Finding fresh) reply = after_finding fresh (found_read reply)
stage_left (Ending last) reply = Return (last_said last reply)
stage_left (Mailing more lines) reply = after_mail (mailing more) (string_bytes lines) (taken_mail reply)
stage_left Ended reply = Return spent

-- what the progress of a call stands for
abbrev pub steps_of : Progress → Steps Said
steps_of (Asks op stage) = Ask op (stage_left stage)
steps_of (Ends said) = Return said

-- what is left of a machine that is called with this reply; the first call has none, and there a reply says nothing
abbrev pub left : Machine → Option Reply → Steps Said
left machine reply = stage_left machine.stage (unwrap_or reply (Booted 0))

-- what an answer of the machine stands for, with the machine as it is after it
abbrev pub steps_of_next : Machine → Next → Steps Said
steps_of_next machine (Step op) = Ask op (λ reply. left machine (Some reply))
steps_of_next machine (Done said) = Return said

-- the command has no more steps, and nothing to say
abbrev pub IsEnded : Machine → Type 0
IsEnded machine = machine.stage ≡ Ended

-- with what it says a command is at its end
abbrev pub EndsWhereDone : Machine → Next → Type 0
EndsWhereDone machine (Step op) = Unit {0}
EndsWhereDone machine (Done said) = IsEnded machine
