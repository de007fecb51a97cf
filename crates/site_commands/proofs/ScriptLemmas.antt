-- What holds of the steps of commands.
use Rattle.std.proofs.Common.{◌≡◌, ◌≢◌, ◌<◌, ◌≤◌, ◌-◌, ◌^◌, ℕ, zero, suc, List, [], All, length, slice_range, drop, Option, None, Some, refl, sym, ap, ◌∙◌, inl, arith}
use Rattle.std.proofs.lemmas.List.{length-drop, length-take-le}
use Rattle.std.proofs.lemmas.List.Elements.{All-drop, All-take}
use Rattle.crypto_text.specs.Moment.{IsMoment}
use Rattle.pass_hashers.proofs.LetterLemmas.{random_letters_are_salt}
use Rattle.pass_hashers.proofs.TextLemmas.{HasParts-made}
use Rattle.pass_hashers.specs.PasswordText.{IsPasswordText, IsSalt, IsUsable, last_part}
use Rattle.pass_hashers.specs.declared.hasher.Hasher.{Hasher}
use Rattle.ledger_rows.specs.declared.operation.Op.TheVariants as ops
use Rattle.ledger_rows.specs.declared.reply.Reply.{Reply}
use Rattle.ledger_rows.specs.declared.reply.UserRead.{UserRead}
use Rattle.ledger_rows.specs.declared.rows.MailRow.{MailRow}
use Rattle.account_views.specs.RandomTexts.{new_salt}
use Rattle.account_views.specs.Script.{Steps, Return, Ask}
use Rattle.account_views.specs.Walk.{AtMost}
use Rattle.site_commands.specs.Checking.{IsFault}
use Rattle.site_commands.specs.CommandScript.{after_finding, after_mail, all_mails, mailing, said_of, script}
use Rattle.site_commands.specs.Laws.{StepsAreFew, StepsAreProper, TasksAreProper}
use Rattle.site_commands.specs.ReplyReading.{found_read, taken_mail}
use Rattle.site_commands.specs.StoreCommand.{Administration, ToAddUser, ToChangePassword, ToClearSessions, ToRetireKeys, ToRotateKey, ToSetActive, ToSetMembership, ToTakeMails}
use Rattle.site_commands.specs.Task.{fresh_text, task}
use Rattle.site_commands.specs.Walk.{IsProper, IsTask}
use Rattle.site_commands.specs.declared.said.Said.{Said}
use Rattle.site_commands.specs.declared.task.Task.{Task}
use Rattle.site_commands.specs.declared.task.Task.TheVariants as tasks

-- ---- the mails

pub mailing-none : (lines : List ℕ) → mailing 0 lines ≡ Return (said_of lines)
unfolding mailing
mailing-none lines = refl

pub mailing-some : (more : ℕ) (lines : List ℕ) → 0 < more
    → mailing more lines ≡ Ask ops.TakeMail (λ reply. after_mail (mailing (more - 1)) lines (taken_mail reply))
unfolding mailing
mailing-some zero lines some = absurd (omega arith)
mailing-some (suc more) lines some =
    let e : suc more - 1 ≡ more = omega arith in
    ap (λ k. Ask ops.TakeMail (λ reply. after_mail (mailing k) lines (taken_mail reply))) (sym e)

pub mailing-at_none : (more : ℕ) (lines : List ℕ) → more ≡ 0 → mailing more lines ≡ Return (said_of lines)
mailing-at_none more lines e = ap (λ k. mailing k lines) e ∙ mailing-none lines

after_mail-proper : (go_on : List ℕ → Steps Said) (lines : List ℕ) (mail : Option MailRow) → ((more : List ℕ) → IsProper (go_on more)) → IsProper (after_mail go_on lines mail)
after_mail-proper go_on lines None proper = tt
after_mail-proper go_on lines (Some mail) proper = proper _

mailing-proper : (more : ℕ) (lines : List ℕ) → IsProper (mailing more lines)
unfolding mailing
mailing-proper zero lines = tt
mailing-proper (suc more) lines = (tt, tt, λ reply. after_mail-proper (mailing more) lines (taken_mail reply) (mailing-proper more))

all_mails-proper : IsProper all_mails
unfolding all_mails
all_mails-proper = mailing-proper (2 ^ 62) []

-- ---- a command's steps

after_finding-proper : (fresh : List ℕ) (found : Option UserRead) → IsPasswordText fresh → IsProper (after_finding fresh found)
after_finding-proper fresh None form = tt
after_finding-proper fresh (Some read) form = (form, tt, λ reply. tt)

pub steps_are_proper : StepsAreProper
steps_are_proper (tasks.AddUser name email password superuser) form = (form, tt, λ reply. tt)
steps_are_proper (tasks.ChangePassword name fresh) form = (form.0, tt, λ reply. after_finding-proper fresh (found_read reply) form.1)
steps_are_proper (tasks.SetActive name active) form = (form, tt, λ reply. tt)
steps_are_proper (tasks.SetMembership name group member) form = (form, tt, λ reply. tt)
steps_are_proper (tasks.ClearSessions now) form = (form, tt, λ reply. tt)
steps_are_proper (tasks.RotateKey key) form = (form, tt, λ reply. tt)
steps_are_proper tasks.RetireKeys form = (tt, tt, λ reply. tt)
steps_are_proper tasks.TakeMails form = all_mails-proper

after_finding-few : (fresh : List ℕ) (found : Option UserRead) → AtMost 1 (after_finding fresh found)
after_finding-few fresh None = tt
after_finding-few fresh (Some read) = λ reply. tt

pub steps_are_few : StepsAreFew
steps_are_few (tasks.AddUser name email password superuser) other = λ reply. tt
steps_are_few (tasks.ChangePassword name fresh) other = λ reply. after_finding-few fresh (found_read reply)
steps_are_few (tasks.SetActive name active) other = λ reply. tt
steps_are_few (tasks.SetMembership name group member) other = λ reply. tt
steps_are_few (tasks.ClearSessions now) other = λ reply. tt
steps_are_few (tasks.RotateKey key) other = λ reply. tt
steps_are_few tasks.RetireKeys other = λ reply. tt
steps_are_few tasks.TakeMails other = absurd (other refl)

-- ---- a command's task

new_salt-form : (draw : List ℕ) → All (λ word. word < 2 ^ 32) draw → 1024 ≤ length draw → IsSalt (new_salt draw)
unfolding new_salt
new_salt-form draw words enough =
    let own = slice_range draw 608 630 in
    let left : length (drop 608 draw) ≡ length draw - 608 = length-drop 608 draw in
    let size : length own ≡ 22 = length-take-le 22 (drop 608 draw) (omega arith) in
    let fit : All (λ word. word < 2 ^ 32) own = All-take (λ (word : ℕ). word < 2 ^ 32) 22 (drop 608 draw) (All-drop (λ (word : ℕ). word < 2 ^ 32) 608 draw words) in
    random_letters_are_salt own (omega (arith, size)) (omega (arith, size)) fit

fresh_text-form : (preferred : Hasher) (password draw : List ℕ) → IsUsable preferred → All (λ word. word < 2 ^ 32) draw → 1024 ≤ length draw
    → IsPasswordText (fresh_text preferred password draw)
fresh_text-form preferred password draw usable words enough =
    let salt = new_salt draw in
    inl (preferred, (salt, last_part preferred password salt, HasParts-made preferred password salt usable (new_salt-form draw words enough)))

pub tasks_are_proper : TasksAreProper
tasks_are_proper (ToAddUser name email superuser) line common preferred draw now fine usable words enough moment =
    record { name_form = fine.0; email_form = fine.1; password_form = fresh_text-form preferred line draw usable words enough }
tasks_are_proper (ToChangePassword name) line common preferred draw now fine usable words enough moment = (fine.0, fresh_text-form preferred line draw usable words enough)
tasks_are_proper (ToSetActive name active) line common preferred draw now fine usable words enough moment = fine
tasks_are_proper (ToSetMembership name group member) line common preferred draw now fine usable words enough moment = fine
tasks_are_proper ToClearSessions line common preferred draw now fine usable words enough moment = moment
tasks_are_proper ToRotateKey line common preferred draw now fine usable words enough moment = fine
tasks_are_proper ToRetireKeys line common preferred draw now fine usable words enough moment = tt
tasks_are_proper ToTakeMails line common preferred draw now fine usable words enough moment = tt
