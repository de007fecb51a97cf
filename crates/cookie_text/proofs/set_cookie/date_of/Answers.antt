use Rattle.std.proofs.Common.{arith}
use Rattle.cookie_text.proofs.FixedDateLemmas.{date_text-fixed_date}
use Rattle.cookie_text.proofs.set_cookie.date_of.Goals as goal

pub returns : goal.returns
returns c = let text = date_text-fixed_date c.in-Ok.date c.args.seconds (omega arith) c.in-Ok.ensures.value in rw (← text) c.fmt_http_date.ensures
