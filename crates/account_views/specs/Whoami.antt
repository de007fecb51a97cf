-- GET and HEAD of `/whoami/`: 200, and a line that names the user. This project's own.
use Rattle.std.specs.Prelude.{ℕ, zero, List, ◌++◌, Option, None, Some, codes}
use Rattle.ledger_rows.specs.declared.reply.Reply.{Reply}
use Rattle.ledger_rows.specs.declared.reply.Reply.TheVariants.{Loaded}
use Rattle.ledger_rows.specs.declared.reply.UserRead.{UserRead}
use Rattle.ledger_rows.specs.declared.verdict.Verdict.TheVariants.{Admitted}
use Rattle.middleware_chain.specs.Page.{line}
use Rattle.account_views.specs.Page.{text_page}
use Rattle.account_views.specs.declared.page.Viewed.{Viewed}
use Rattle.account_views.specs.declared.visit.Visit.{Visit}

-- who is asking
abbrev pub user_line : Option UserRead → List ℕ
user_line None = codes "anonymous\n"
user_line (Some read) = codes "user=" ++ line read.row.name

abbrev pub whoami : Visit → Viewed
whoami visit = record { page = text_page 200 (user_line visit.user); session = visit.session }

-- the user of a load after which the session stays as it is stored: it isn't rehashed, and has a key
abbrev pub unchanged_user : Reply → Option UserRead
unchanged_user (Loaded (Admitted zero) (Some key) payload (Some read)) = Some read
unchanged_user _ = None
