use Rattle.std.proofs.Common.{length, arith}
use Rattle.std.proofs.lemmas.Str.{IsCharBoundary-after_ascii}
use Rattle.csrf_tokens.proofs.MarkLemmas.{mark_at}
use Rattle.csrf_tokens.proofs.marks.cut_after.Goals as goal

pub split_at-requires : goal.split_at-requires
split_at-requires c =
    let cut = c.in-Some.ensures.cut in
    let at = mark_at c.args.mark c.args.text.now c.in-Some.front.now c.in-Some.field-0-1.now cut.whole in
    IsCharBoundary-after_ascii c.args.text.now (length c.in-Some.front.now) c.utf8.text at.0 (omega (arith, at.1, c.requires))
