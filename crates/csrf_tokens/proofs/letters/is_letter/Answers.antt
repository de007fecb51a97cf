use Rattle.std.proofs.Common.{◌∙◌}
use Rattle.std.proofs.lemmas.Bool.Decides.{Decides-at}
use Rattle.csrf_tokens.proofs.LetterLemmas.{is_letter-Decides, is_letter-alphanumeric}
use Rattle.csrf_tokens.proofs.letters.is_letter.Goals as goal

pub returns : goal.returns
returns c =
    let value = c.is_ascii_alphanumeric.ensures.value ∙ is_letter-alphanumeric c.args.byte c.ranges.byte.fits in
    record { letter = Decides-at _ _ value (is_letter-Decides c.args.byte); value = value }
