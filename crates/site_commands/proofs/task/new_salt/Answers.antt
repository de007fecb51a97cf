use Rattle.std.proofs.Common.{◌≡◌, IfOk, ap, arith, drop, subst, take, ◌∙◌}
use Rattle.std.proofs.lemmas.List.{take-take}
use Rattle.crypto_text.specs.Alphabet.{letters62, random_text}
use Rattle.outside.specs.RandomWords.{words_from}
use Rattle.account_views.specs.RandomTexts.{new_salt}
use Rattle.site_commands.proofs.task.new_salt.Goals as goal

-- the first 22 of 32 words of the request are its words from the same index on
pub returns-clause-value : goal.returns-clause-value
unfolding new_salt
returns-clause-value g c =
    let left = drop 608 (words_from (g.W.Words.seen c.args.words.now) 1024) in
    let same : take 22 c.request_words-words.result ≡ take 22 left = ap (take 22) c.request_words-words.ensures ∙ take-take 22 32 left (omega arith) in
    subst (λ words. IfOk c.salt_of.result (λ salt. salt ≡ random_text letters62 words)) same c.salt_of.ensures.value
