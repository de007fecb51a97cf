use Rattle.std.proofs.lemmas.Bool.Decides.{Decides-at}
use Rattle.pass_hashers.proofs.LetterLemmas.{alphanumeric-Decides}
use Rattle.pass_hashers.proofs.password_text.is_letter.Goals as goal

pub returns : goal.returns
returns c = Decides-at _ _ c.is_ascii_alphanumeric.ensures.value (alphanumeric-Decides c.args.byte c.ranges.byte.fits)
