use Rattle.std.proofs.Common.{◌≡◌, ◌∙◌, ap, sym, string_bytes, arith, rules}
use Rattle.account_views.specs.Script.{Steps, Return}
use Rattle.site_commands.specs.CommandScript.{mailing, said_of}
use Rattle.site_commands.specs.declared.said.Said.{Said}
use Rattle.site_commands.proofs.ScriptLemmas.{mailing-at_none, mailing-some}
use Rattle.site_commands.proofs.machine.mailing.Goals as goal

pub returns-then-more-eq0 : goal.returns-then-more-eq0
returns-then-more-eq0 c =
    let said : c.said_of.result ≡ said_of (string_bytes c.args.lines) = search rules in
    ap (λ (x : Said). Return x) said ∙ sym (mailing-at_none c.args.more (string_bytes c.args.lines) (grind arith))

pub returns-else-more-eq0 : goal.returns-else-more-eq0
returns-else-more-eq0 c = sym (mailing-some c.args.more (string_bytes c.args.lines) (grind arith))
