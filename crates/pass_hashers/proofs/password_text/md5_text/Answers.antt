use Rattle.std.proofs.Common.{◌≡◌, ◌∙◌}
use Rattle.std.proofs.lemmas.Str.{IsUtf8-from_ascii}
use Rattle.pass_hashers.proofs.password_text.md5_text.Goals as goal

pub unreachable-requires : goal.unreachable-requires
unreachable-requires c = c.in_default.ensures.cases.0 (IsUtf8-from_ascii c.args.digits.now c.requires)

pub returns : goal.returns
returns c =
    let text = c.in_ok-text.ensures.ok in
    let digits : c.in-Ok.digits.now ≡ c.args.digits.now = c.in-Ok.ensures.cases.0 in
    c.from_string.ensures ∙ (rw digits at text)
