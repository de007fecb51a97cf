use Rattle.std.proofs.Common.{None}
use Rattle.account_views.specs.Machine.{left}
use Rattle.site_server.specs.Step.{server_of}
use Rattle.site_server.proofs.DriveLemmas.{IsUnderway}
use Rattle.site_server.proofs.driving.drive.Given as goal

-- the steps so far are those of the script, and the machine stands for what is left of it
abbrev pub invariant-loop-step : goal.invariant-loop-step
invariant-loop-step g l =
    IsUnderway g.S.StepTaker.passed g.S.StepTaker.may_enter (server_of l.place) (left l.settings (g.W.Words.seen l.words) l.fn.machine None) (left l.settings (g.W.Words.seen l.words) l.machine l.reply) l.place.number l.step l.fn.taker l.taker
