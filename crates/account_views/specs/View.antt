-- The views: what each route does between the load and the session's write.
use Rattle.std.specs.Prelude.{Bool, true, false, codes}
use Rattle.ledger_rows.specs.declared.reply.Reply.{Reply}
use Rattle.middleware_chain.specs.declared.route.Route.{Route}
use Rattle.middleware_chain.specs.declared.route.Route.TheVariants.{Whoami, Login, Logout, Session, PasswordChange}
use Rattle.account_views.specs.Basis.{Basis}
use Rattle.account_views.specs.Login.{login, login_left}
use Rattle.account_views.specs.Logout.{logout}
use Rattle.account_views.specs.Page.{text_page}
use Rattle.account_views.specs.Script.{Steps, Return}
use Rattle.account_views.specs.PasswordChange.{change_left, password_change}
use Rattle.account_views.specs.SessionEntries.{session_entries}
use Rattle.account_views.specs.Whoami.{whoami}
use Rattle.account_views.specs.declared.call.Call.{Call}
use Rattle.account_views.specs.declared.page.Viewed.{Viewed}
use Rattle.account_views.specs.declared.view.ViewStage.{ViewStage}
use Rattle.account_views.specs.declared.view.ViewStage.TheVariants as stages
use Rattle.account_views.specs.declared.visit.Visit.{Visit}

-- the routes that have a view so far
abbrev pub has_view : Route → Bool
has_view Whoami = true
has_view Login = true
has_view Logout = true
has_view Session = true
has_view PasswordChange = true
has_view _ = false

-- the view of a route
abbrev pub view_at : Route → Basis → Call → Visit → Steps Viewed
view_at Whoami basis call visit = Return (whoami visit)
view_at Login basis call visit = login basis call visit.session
view_at Logout basis call visit = Return (logout visit.session)
view_at Session basis call visit = Return (session_entries basis.draw call visit.session)
view_at PasswordChange basis call visit = password_change basis.settings basis.draw call visit
view_at _ basis call visit = Return (record { page = text_page 404 (codes "error=no-route\n"); session = visit.session })

abbrev pub view : Basis → Call → Visit → Steps Viewed
view basis call visit = view_at call.route basis call visit

-- what a view does from a stage on, once the reply is there
abbrev pub view_left : Basis → ViewStage → Reply → Steps Viewed
view_left basis (stages.Login stage) reply = login_left basis stage reply
view_left basis (stages.PasswordChange stage) reply = change_left basis.draw stage reply
