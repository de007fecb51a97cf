-- POST of `/logout/`, as Django's `LogoutView`: the session is flushed, whoever is logged in.
use Rattle.std.specs.Prelude.{None, codes}
use Rattle.auth_backends.specs.SessionBox.{flushed}
use Rattle.auth_backends.specs.declared.session_box.SessionBox.{SessionBox}
use Rattle.account_views.specs.Page.{redirect_page}
use Rattle.account_views.specs.declared.page.Viewed.{Viewed}

abbrev pub logout : SessionBox → Viewed
logout session = record { page = redirect_page (codes "/login/") None; session = flushed session }
