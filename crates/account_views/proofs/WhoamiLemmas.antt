-- Who is asking is answered without the entries of a session that stays as it is stored.
use Rattle.std.proofs.Common.{◌≡◌, ℕ, zero, suc, List, [], Bool, true, false, Option, None, Some, refl}
use Rattle.ledger_rows.specs.declared.reply.Reply.{Reply}
use Rattle.ledger_rows.specs.declared.reply.Reply.TheVariants.{Loaded}
use Rattle.ledger_rows.specs.declared.reply.UserRead.{UserRead}
use Rattle.ledger_rows.specs.declared.verdict.Verdict.TheVariants.{Admitted}
use Rattle.middleware_chain.specs.declared.route.Route.TheVariants.{Whoami}
use Rattle.account_views.specs.Basis.{Basis}
use Rattle.account_views.specs.Handler.{after_load}
use Rattle.account_views.specs.Page.{page_response, text_page}
use Rattle.account_views.specs.Script.{Return}
use Rattle.account_views.specs.Whoami.{unchanged_user, user_line}
use Rattle.account_views.specs.declared.call.Call.{Call}

-- the page of a user whose session has a key and stays as it is stored: nothing of it is to be written
pub unchanged_page : (basis : Basis) (came : Bool) (call : Call) (reply : Reply) (read : UserRead) → call.route ≡ Whoami → unchanged_user reply ≡ Some read
    → after_load basis came call reply ≡ Return (page_response basis.settings basis.facts (text_page 200 (user_line (Some read))) [])
unchanged_page basis true call (Loaded (Admitted zero) (Some key) payload (Some user)) read route found =
    let same : user ≡ read = cc found in
    rw route (rw same refl)
unchanged_page basis false call (Loaded (Admitted zero) (Some key) payload (Some user)) read route found =
    let same : user ≡ read = cc found in
    rw route (rw same refl)
unchanged_page basis came call reply read route found = absurd (cc found)
