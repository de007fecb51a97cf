use Rattle.std.proofs.Common.{subst, sym, ◌∙◌}
use Rattle.std.proofs.lemmas.List.{get_or_default}
use Rattle.csrf_tokens.specs.Letters.{AreLetters}
use Rattle.account_views.proofs.RandomTextLemmas.{are_letters}
use Rattle.account_views.proofs.random_texts.letters.Goals as goal

pub returns-clause-letters : goal.returns-clause-letters
returns-clause-letters c =
    let same = c.copy_from_slice.ensures.after ∙ c.as_bytes.ensures.value ∙ c.as_str.ensures ∙ c.in_ok-text.ensures in
    subst AreLetters (sym same) (are_letters c.args.words.now (λ k d below. rw (get_or_default c.args.words.now k d 0 below) (c.fits-words k)))
