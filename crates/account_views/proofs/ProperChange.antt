-- A change of password is proper: its step may be done, and it leaves a session.
use Rattle.std.proofs.Common.{ℕ, List, Option, Some, None}
use Rattle.session_codec.specs.SessionMap.{IsSession}
use Rattle.ledger_rows.specs.declared.reply.Reply.{Reply}
use Rattle.ledger_rows.specs.declared.reply.Reply.TheVariants.{Written}
use Rattle.ledger_rows.specs.declared.reply.UserRead.{UserRead}
use Rattle.ledger_rows.specs.declared.rows.UserRow.{UserRow}
use Rattle.auth_backends.specs.declared.session_box.SessionBox.{SessionBox}
use Rattle.account_views.specs.Basis.{Basis}
use Rattle.account_views.specs.Login.{written_hash}
use Rattle.account_views.specs.PasswordChange.{after_replacing, change_by, checked, form_fault, password_change, replacing, shown}
use Rattle.account_views.specs.Walk.{Event, HasTextHash}
use Rattle.account_views.specs.declared.call.Call.{Call}
use Rattle.account_views.specs.declared.password_change.ChangeFault.{ChangeFault}
use Rattle.account_views.specs.declared.visit.Visit.{Visit}
use Rattle.account_views.proofs.EntryLemmas.{put_hash-session}
use Rattle.account_views.proofs.ProperLemmas.{IsProperEnd, status_200}
use Rattle.account_views.proofs.ProperLogin.{IsProperView, fresh_text-form, status_302}
use Rattle.account_views.proofs.WalkLemmas.{either}

module _ (basis : Basis) (call : Call) (session : SessionBox) (held : IsSession session.map) where
  shown-proper : (lines : List ℕ) → IsProperEnd (shown basis.draw call.secret lines session)
  shown-proper lines = record { session = held; status = status_200 }

  after_replacing-proper : (reply : Reply) → HasTextHash reply → IsProperEnd (after_replacing basis.draw call.secret session (written_hash reply))
  after_replacing-proper (Written hash) text = record { session = put_hash-session hash session.map text held; status = status_302 }
  after_replacing-proper _ text = shown-proper _

  replacing-proper : (past : List Event) (row : UserRow) (password : List ℕ) → IsProperView basis past (replacing basis.settings basis.draw call.secret row password session)
  replacing-proper past row password = (
    λ going. record { operation = fresh_text-form basis password going; no_start = λ e. cc },
    λ reply may. after_replacing-proper reply may.hash,
  )

  checked-proper : (past : List Event) (row : UserRow) (password : List ℕ) (fault : Option ChangeFault)
      → IsProperView basis past (checked basis.settings basis.draw call.secret row password session fault)
  checked-proper past row password None = replacing-proper past row password
  checked-proper past row password (Some fault) = shown-proper _

  change_by-proper : (past : List Event) (user : Option UserRead) → IsProperView basis past (change_by basis.settings basis.draw call user session)
  change_by-proper past None = record { session = held; status = status_302 }
  change_by-proper past (Some read) =
      either (IsProperView basis past) call.post _ _ (checked-proper past read.row _ (form_fault basis.settings read.row call.fields)) (shown-proper _)

pub change-proper : (basis : Basis) (call : Call) (visit : Visit) (past : List Event) → IsSession visit.session.map
    → IsProperView basis past (password_change basis.settings basis.draw call visit)
change-proper basis call visit past held = change_by-proper basis call visit.session held past visit.user
