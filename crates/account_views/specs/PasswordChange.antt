-- `/password_change/`: a user's own new password, as Django's PasswordChangeView. GET and HEAD show the form; POST checks
-- it, puts the new password text in place of the one that was loaded, and keeps the user logged in. Without a user the
-- browser is sent to log in. Bodies are this project's own.
use Rattle.std.specs.Prelude.{ℕ, if◌then◌else◌, List, [], Option, Some, None, option_map, codes}
use Rattle.http_edge.specs.declared.form_field.Field.{Field}
use Rattle.pass_hashers.specs.PasswordText.{password_text}
use Rattle.ledger_rows.specs.declared.operation.Op.{Op}
use Rattle.ledger_rows.specs.declared.operation.Op.TheVariants.{SetPassword}
use Rattle.ledger_rows.specs.declared.reply.Reply.{Reply}
use Rattle.ledger_rows.specs.declared.reply.UserRead.{UserRead}
use Rattle.ledger_rows.specs.declared.rows.UserRow.{UserRow}
use Rattle.auth_backends.specs.PasswordReading.{verifies}
use Rattle.auth_backends.specs.SessionBox.{rehashed}
use Rattle.auth_backends.specs.declared.session_box.SessionBox.{SessionBox}
use Rattle.middleware_chain.specs.Fields.{last_value}
use Rattle.middleware_chain.specs.declared.settings.Settings.{Settings}
use Rattle.account_views.specs.NewPassword.{fault_line, new_password_fault}
use Rattle.account_views.specs.Login.{written_hash}
use Rattle.account_views.specs.Page.{form_page, redirect_page}
use Rattle.account_views.specs.RandomTexts.{new_salt}
use Rattle.account_views.specs.Script.{Steps, Return, Ask}
use Rattle.account_views.specs.declared.call.Call.{Call}
use Rattle.account_views.specs.declared.page.Viewed.{Viewed}
use Rattle.account_views.specs.declared.password_change.ChangeFault.{ChangeFault}
use Rattle.account_views.specs.declared.password_change.ChangeFault.TheVariants.{OldPassword, NewPassword, RowChanged}
use Rattle.account_views.specs.declared.password_change.ChangeStage.{ChangeStage}
use Rattle.account_views.specs.declared.password_change.ChangeStage.TheVariants.{Replacing}
use Rattle.account_views.specs.declared.visit.Visit.{Visit}

-- ---- the pages

-- nobody is logged in
abbrev pub to_login : SessionBox → Viewed
to_login session = record { page = redirect_page (codes "/login/?next=/password_change/") None; session = session }

-- the form, with these lines
abbrev pub shown : List ℕ → Option (List ℕ) → List ℕ → SessionBox → Viewed
shown draw secret lines session = record { page = form_page draw secret lines; session = session }

-- the line of a fault
abbrev pub change_line : ChangeFault → List ℕ
change_line OldPassword = codes "error=old\n"
change_line (NewPassword fault) = fault_line fault
change_line RowChanged = codes "error=changed\n"

abbrev pub refused : List ℕ → Option (List ℕ) → ChangeFault → SessionBox → Viewed
refused draw secret fault session = shown draw secret (change_line fault) session

-- the password was changed: the session keeps its user, under a new key
abbrev pub changed : List ℕ → SessionBox → Viewed
changed hash session = record { page = redirect_page (codes "/whoami/") None; session = rehashed hash session }

-- ---- the form

-- what is wrong with it, where anything is: the old password comes first
abbrev pub form_fault : Settings → UserRow → List Field → Option ChangeFault
form_fault settings row fields =
    if verifies (last_value (codes "old_password") fields) row.password settings.cfg.installed
    then option_map NewPassword (new_password_fault (last_value (codes "new_password1") fields) (last_value (codes "new_password2") fields) settings.common)
    else Some OldPassword

-- ---- the steps, from the last to the first

abbrev pub after_replacing : List ℕ → Option (List ℕ) → SessionBox → Option (List ℕ) → Viewed
after_replacing draw secret session None = refused draw secret RowChanged session
after_replacing draw secret session (Some hash) = changed hash session

-- the new text, in place of the one that was loaded
abbrev pub replacing_op : Settings → List ℕ → UserRow → List ℕ → Op
replacing_op settings draw row password = SetPassword row.id row.password (password_text settings.cfg.preferred password (new_salt draw))

abbrev pub replacing : Settings → List ℕ → Option (List ℕ) → UserRow → List ℕ → SessionBox → Steps Viewed
replacing settings draw secret row password session =
    Ask (replacing_op settings draw row password) (λ reply. Return (after_replacing draw secret session (written_hash reply)))

abbrev pub checked : Settings → List ℕ → Option (List ℕ) → UserRow → List ℕ → SessionBox → Option ChangeFault → Steps Viewed
checked settings draw secret row password session None = replacing settings draw secret row password session
checked settings draw secret row password session (Some fault) = Return (refused draw secret fault session)

abbrev pub submitted : Settings → List ℕ → Call → UserRow → SessionBox → Steps Viewed
submitted settings draw call row session =
    checked settings draw call.secret row (last_value (codes "new_password1") call.fields) session (form_fault settings row call.fields)

-- ---- the route

abbrev pub change_by : Settings → List ℕ → Call → Option UserRead → SessionBox → Steps Viewed
change_by settings draw call None session = Return (to_login session)
change_by settings draw call (Some read) session =
    if call.post then submitted settings draw call read.row session else Return (shown draw call.secret [] session)

abbrev pub password_change : Settings → List ℕ → Call → Visit → Steps Viewed
password_change settings draw call visit = change_by settings draw call visit.user visit.session

-- what is left of a change from a stage on, once the reply is there
abbrev pub change_left : List ℕ → ChangeStage → Reply → Steps Viewed
change_left draw (Replacing secret session) reply = Return (after_replacing draw secret session (written_hash reply))
