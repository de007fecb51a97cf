use Rattle.std.proofs.Common.{◌≡◌, ◌≤◌, ◌-◌, arith}
use Rattle.account_views.specs.Basis.{Basis, basis_of}
use Rattle.account_views.proofs.PlacingLemmas.{none_left, one_tried}
use Rattle.account_views.proofs.session_write.place.Goals as goal

pub returns-then-left-eq0 : goal.returns-then-left-eq0
returns-then-left-eq0 g c = none_left (basis_of c.args.settings.now c.args.facts.now (g.W.Words.seen c.args.words.now)) _ _ _ _ (omega arith) c.in_ok-unwritten_response.ensures

pub returns : goal.returns
returns g c =
    let some : 1 ≤ c.args.left = omega arith in
    let number_is : c.saturating_sub.result ≡ 16 - c.args.left = omega arith in
    one_tried (basis_of c.args.settings.now c.args.facts.now (g.W.Words.seen c.args.words.now)) _ _ _ _ _ _ some number_is c.in_ok-key.ensures c.in_ok-op.ensures
