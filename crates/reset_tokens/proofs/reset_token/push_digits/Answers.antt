use Rattle.std.proofs.lemmas.Str.{IsUtf8-from_ascii}
use Rattle.reset_tokens.proofs.reset_token.push_digits.Goals as goal

pub unreachable-requires : goal.unreachable-requires
unreachable-requires c = c.in-Err.ensures.cases.0 (IsUtf8-from_ascii c.args.digits.now c.requires)
