use Rattle.std.proofs.Common.{◌==◌, ◌||◌, ap, ◌∙◌, ℕ, Bool}
use Rattle.std.specs.List.{before_first}
use Rattle.csrf_tokens.specs.Urls.{netloc_of}
use Rattle.csrf_tokens.proofs.MarkLemmas.{before_first-twice}
use Rattle.csrf_tokens.proofs.urls.netloc_of.Goals as goal

pub returns : goal.returns
unfolding netloc_of
returns c =
    let slash : ℕ → Bool = λ byte. byte == 47 in
    let question : ℕ → Bool = λ byte. byte == 63 in
    let hash : ℕ → Bool = λ byte. byte == 35 in
    let second = c.up_to-2.ensures ∙ ap (before_first question) c.up_to.ensures ∙ before_first-twice question slash c.args.rest.now in
    c.up_to-3.ensures ∙ ap (before_first hash) second ∙ before_first-twice hash (λ byte. slash byte || question byte) c.args.rest.now
